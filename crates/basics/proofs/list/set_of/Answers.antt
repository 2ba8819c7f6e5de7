use Rattle.std.proofs.Common.{◌≡◌, ◌+◌, drop, sym, ap, ◌∙◌, arith}
use Rattle.std.proofs.lemmas.List.{at_drop_all}
use Rattle.basics.specs.Lists.{gathered}
use Rattle.basics.specs.Sets.{has}
use Rattle.basics.proofs.Listing.{gathered_next, set_has}
use Rattle.basics.proofs.list.set_of.Goals as goal

pub loop-n-preserved : goal.loop-n-preserved
loop-n-preserved c =
    let i = c.loop-n.n-index in
    let ns = c.args.nodes.now in
    c.loop-n.invariant ∙ gathered_next c.loop-n.set.mask ns i (omega arith) ∙ ap (λ m. gathered m (drop (i + 1) ns)) (sym c.with-set.ensures.mask)

pub returns : goal.returns
returns c =
    let ns = c.args.nodes.now in
    let e : c.loop-n.set.mask ≡ gathered 0 ns = sym (c.loop-n.invariant ∙ at_drop_all (gathered c.loop-n.set.mask) ns c.loop-n.n-index (omega arith)) in
    record { mask = e; members = λ k. ap (λ m. has m k) e ∙ set_has ns k }
