use Rattle.std.proofs.Common.{◌∷◌, length, sym, refl, ap, ◌∙◌, arith}
use Rattle.runtext.specs.Left.{pieces_left}
use Rattle.runtext.specs.Listing.{front, behind, listed, above}
use Rattle.runtext.proofs.Cutting.{size_small}
use Rattle.runtext.proofs.Listings.{front_first, front_none}
use Rattle.runtext.proofs.piece.Rest.list.Goals as goal

pub overflow_add-count : goal.overflow_add-count
overflow_add-count c = omega (arith, size_small c.args.self, c.loop-n.invariant.3)

pub loop-n-preserved : goal.loop-n-preserved
loop-n-preserved c =
    let (is, follows, small) = c.in-Some.ensures in
    let (count, limit, rest, few) = c.loop-n.invariant in
    let (more, on) = front_first (pieces_left c.loop-n.rest) c.in-Some.n is in
    let f = more ∙ ap (λ ps. c.in-Some.n ∷ front ps) (sym follows.rest) in (
      omega (arith, count, ap length f),
      ap (λ m. above m (front (pieces_left c.in-Some.next))) c.max-limit.ensures ∙ sym (ap (above c.loop-n.limit) f) ∙ limit,
      ap behind follows.rest ∙ sym on ∙ rest,
      omega (arith, few, follows.shorter),
    )

pub invariant_of-numbers : goal.invariant_of-numbers
unfolding listed
invariant_of-numbers c =
    let (count, limit, rest, few) = c.loop-n.invariant in
    let (none, all) = front_none (pieces_left c.loop-n.rest) c.in_default.ensures in
    record { counted = omega (arith, count, ap length none); limited = sym (ap (above c.loop-n.limit) none) ∙ limit }

pub returns : goal.returns
returns c =
    let (count, limit, rest, few) = c.loop-n.invariant in
    let (none, all) = front_none (pieces_left c.loop-n.rest) c.in_default.ensures in
    (refl, sym all ∙ rest)
