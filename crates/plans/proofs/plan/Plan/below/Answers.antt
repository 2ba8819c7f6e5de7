use Rattle.std.proofs.Common.{◌≡◌, ℕ, true, ◌↔◌, ◌<◌, length, ap, ◌∙◌, subst, arith}
use Rattle.basics.specs.Sets.{has, with_member}
use Rattle.graph.specs.Walks.{Reached}
use Rattle.plans.specs.Meaning.{nodes_of}
use Rattle.plans.specs.Nodes.{is_parent}
use Rattle.plans.specs.Descent.{Below}
use Rattle.plans.proofs.Descending.{reached_below, same_below}
use Rattle.plans.proofs.plan.Plan.below.Goals as goal

pub returns : goal.returns
returns c =
    let p = c.args.self.now in
    let n = c.args.n.0 in
    let inside : n < length (nodes_of p) = omega arith in
    let start : c.with.result.mask ≡ with_member 64 0 n = c.with.ensures.mask ∙ ap (λ m. with_member 64 m n) c.empty-2.ensures.mask in
    let found = subst (λ m. Reached (is_parent (nodes_of p)) m c.reach.result.mask) start c.reach.ensures in
    let below : (k : ℕ) → (has c.reach.result.mask k ≡ true) ↔ Below (nodes_of p) n k = reached_below (nodes_of p) n c.reach.result.mask inside p.few found in
    record {
      set = same_below (nodes_of p) n c.reach.result.mask p.lower inside p.few below;
      chain = below;
    }
