use Rattle.std.proofs.Common.{◌≡◌, ℕ, ◌&&◌, ltb, length, get_or, sym, ap, ◌∙◌, arith}
use Rattle.std.proofs.Math.ListN.{get_or-map}
use Rattle.std.proofs.lemmas.List.{length-map}
use Rattle.basics.specs.Sets.{has}
use Rattle.plans.specs.Meaning.{nodes_of}
use Rattle.plans.specs.Nodes.{is_parent}
use Rattle.plans.specs.Placed.{not_placed, node_of}
use Rattle.plans.proofs.Descending.{found_more, found_same, found_all}
use Rattle.plans.proofs.plan.Plan.children.Goals as goal
use Rattle.plans.proofs.plan.Plan.children.Goals.{then-contains, else-contains}

pub loop-k-preserved : goal.loop-k-preserved
loop-k-preserved c =
    let p = c.args.self.now in
    let n = c.args.n.0 in
    let q : ℕ → _ = is_parent (nodes_of p) n in
    let k = c.loop-k.k in
    let told : c.contains.result ≡ q k = c.contains.ensures
    ∙ ap (λ xs. has (get_or xs k not_placed).parents.mask n) c.deref-node-items.ensures.0
    ∙ sym (ap (λ x. has x.parents.mask n) (get_or-map node_of p.nodes.items k not_placed)) in
    let few = c.deref-node-items.ensures.1 in
    elim c.if-contains.branch [
      | then-contains w ↦ found_more q k c.loop-k.children.mask c.if-contains.children.mask (omega arith) c.loop-k.invariant (sym told ∙ w.if-contains.true) (λ j. ap (λ s. has s.mask j) w.children-is ∙ w.with-children.ensures.members j)
      | else-contains w ↦ λ j. ap (λ s. has s.mask j) w.children-is ∙ found_same q k c.loop-k.children.mask c.loop-k.invariant (sym told ∙ w.if-contains.false) j
    ]

pub returns : goal.returns
returns c = λ k.
    let p = c.args.self.now in
    let items = ap length c.deref-node-items.ensures.0 in
    let size : c.loop-k.k ≡ length (nodes_of p) = omega (arith, length-map p.nodes.items node_of) in
    c.loop-k.invariant k ∙ ap (λ m. ltb k m && is_parent (nodes_of p) c.args.n.0 k) size ∙ found_all (nodes_of p) c.args.n.0 k
