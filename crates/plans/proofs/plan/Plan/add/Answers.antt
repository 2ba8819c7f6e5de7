use Rattle.std.proofs.Common.{◌≡◌, ℕ, ◌+◌, ◌<◌, ◌≤◌, true, [], ◌∷◌, ◌++◌, length, sym, ap, ◌∙◌, subst, arith, length-append}
use Rattle.std.proofs.lemmas.List.{map-append}
use Rattle.basics.specs.Sets.{has}
use Rattle.basics.proofs.Listing.{set_below, set_some, all_below_more}
use Rattle.plans.specs.declared.plan.Node.{Node}
use Rattle.plans.specs.declared.plan.PlacedNode.{PlacedNode}
use Rattle.plans.specs.Building.{node_refusal}
use Rattle.plans.specs.Meaning.{nodes_of}
use Rattle.plans.specs.Nodes.{no_node, node_at, is_parent}
use Rattle.plans.specs.Placed.{node_of, nodes_in}
use Rattle.plans.proofs.Starts.{Laid, laid_more}
use Rattle.plans.proofs.Growing.{Accepted, accepted, none_refused, each_added}
use Rattle.plans.proofs.plan.Plan.add.Goals as goal

pub invariant_of-self : goal.invariant_of-self
invariant_of-self c =
    let p = c.args.self.now in
    let ps = c.args.parents.now in
    let old = nodes_of p in
    let placed : PlacedNode = record { width = c.args.width; start = c.end.result; parents = c.set_of.result } in
    let new : Node = node_of placed in
    let ok : Accepted (length old) c.args.width ps = accepted old c.args.width ps (none_refused (node_refusal old c.args.width ps) tt tt c.in_ok-check_node.ensures) in
    let mask = c.set_of.ensures.mask in
    let more : length (old ++ new ∷ []) ≡ length old + 1 = length-append old (new ∷ []) in
    let items = c.push.ensures.items in
    let nodes : nodes_in c.push.new.self.items ≡ old ++ new ∷ [] = ap nodes_in items ∙ map-append node_of p.nodes.items (placed ∷ []) in
    let room = ok.room in
    record {
      few = subst (λ ns. length ns ≤ 64) (sym nodes) (omega arith);
      wide = subst (λ ns. (n : ℕ) → n < length ns → 2 ≤ (node_at ns n).width) (sym nodes)
          (each_added (λ n x. n < length (old ++ new ∷ []) → 2 ≤ x.width) no_node old new (λ n ne l. p.wide n (omega arith)) (λ _. ok.wide));
      slim = subst (λ ns. (n : ℕ) → (node_at ns n).width ≤ 16) (sym nodes)
          (each_added (λ n x. x.width ≤ 16) no_node old new (λ n ne. p.slim n) ok.slim);
      lower = subst (λ ns. (n q : ℕ) → is_parent ns q n ≡ true → q < n) (sym nodes)
          (each_added (λ n x. (q : ℕ) → has x.parents.mask q ≡ true → q < n) no_node old new (λ n ne. p.lower n)
          (λ q h. set_below (length old) ps q ok.lower (ap (λ m. has m q) (sym mask) ∙ h)));
      laid = subst Laid (sym items) (laid_more p.nodes.items placed p.laid c.end.ensures);
      rooted = subst (λ ns. (n : ℕ) → 0 < n → n < length ns → 0 < (node_at ns n).parents.mask) (sym nodes)
          (each_added (λ n x. 0 < n → n < length (old ++ new ∷ []) → 0 < x.parents.mask) no_node old new (λ n ne z l. p.rooted n z (omega arith))
          (λ z l. subst (λ m. 0 < m) (sym mask) (set_some ps (all_below_more (length old) 64 ps (omega arith) ok.lower) (ok.some z))));
    }
