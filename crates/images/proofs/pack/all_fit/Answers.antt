use Rattle.std.proofs.Common.{ℕ, ◌≡◌, ◌+◌, ℤ, ap, ◌∙◌, arith, rules}
use Rattle.std.proofs.lemmas.Iterator.Search.{all_from_yields_List}
use Rattle.std.specs.List.{list_all, range_with_len, zip}
use Rattle.plans.specs.Meaning.{nodes_of}
use Rattle.plans.specs.Nodes.{node_at}
use Rattle.image_model.specs.Fields.{fits}
use Rattle.image_model.proofs.Packing.{fit_each}
use Rattle.images.proofs.Numbered.{numbered}
use Rattle.images.proofs.pack.all_fit.Goals as goal

pub returns : goal.returns
returns c =
    let nodes = nodes_of c.args.plan.now in
    let zero : (k : ℕ) → node_at nodes (0 + k) ≡ node_at nodes k = λ k. let e : 0 + k ≡ k = omega arith in ap (node_at nodes) e in
    all_from_yields_List (λ (p : ℕ × ℤ). fits (node_at nodes p.0).width p.1) c.all.new.self _ c.all.result c.all.ensures.ran
    (numbered c.count.result c.args.values.now c.zip.result c.zip.ensures.first c.zip.ensures.second.0)
    (λ x b q k. search rules)
    ∙ ap (λ n. list_all (λ (p : ℕ × ℤ). fits (node_at nodes p.0).width p.1) (zip (range_with_len 0 n) c.args.values.now)) c.count.ensures
    ∙ fit_each nodes 0 nodes c.args.values.now zero
