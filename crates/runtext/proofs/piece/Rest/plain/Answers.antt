use Rattle.std.proofs.Common.{pos, nat_abs, Some, sym, ap, ◌∙◌, arith}
use mathlib.Core.Path.{subst⁻¹}
use lib.Signed.{lt_z}
use Rattle.runtext.specs.Left.{pieces_left}
use Rattle.runtext.specs.Listing.{PlainFound}
use Rattle.runtext.proofs.Listings.{no_plain, plain_is, below_zero, from_zero, same_word}
use Rattle.runtext.proofs.piece.Rest.plain.Goals as goal

pub returns-in_err-value : goal.returns-in_err-value
returns-in_err-value c = subst⁻¹ (PlainFound c.args.self) c.from_residual.ensures (no_plain (pieces_left c.args.self) c.in_err-value.ensures)

pub returns-then-value-lt0 : goal.returns-then-value-lt0
returns-then-value-lt0 c =
    let (is, follows, (low, high)) = c.in_ok-value.ensures in
    let z = c.in_ok-value.value in
    plain_is (pieces_left c.args.self) z is ∙ below_zero z (ap (λ x. lt_z x (pos 0)) (sym (same_word z (low, high))) ∙ c.if-value-lt0.true)

pub returns : goal.returns
returns c =
    let (is, follows, (low, high)) = c.in_ok-value.ensures in
    let z = c.in_ok-value.value in
    let back = same_word z (low, high) in
    let (plain, few) = from_zero z (ap (λ x. lt_z x (pos 0)) (sym back) ∙ c.if-value-lt0.false) high in (
      plain_is (pieces_left c.args.self) z is ∙ plain ∙ ap (λ x. Some (nat_abs x)) (sym back),
      follows,
      omega (arith, ap nat_abs back, few),
    )
