use Rattle.std.proofs.Common.{Some, drop, sym, ap, ◌∙◌, arith}
use mathlib.Core.Path.{subst⁻¹}
use Rattle.std.proofs.lemmas.Int.{ints}
use Rattle.runtext.specs.Listing.{first_number, NumberFound}
use Rattle.runtext.proofs.Listings.{same_word}
use Rattle.runtext.proofs.Wording.{number_reads}
use Rattle.runtext.proofs.piece.Rest.number.Goals as goal

pub returns-in_err-number : goal.returns-in_err-number
returns-in_err-number c =
    let cuts = c.in_ok-part.ensures in
    subst⁻¹ (NumberFound c.args.self) c.from_residual-in_err-number.ensures (ap first_number cuts.cut ∙ number_reads _ ∙ sym c.in_err-number.ensures.is)

pub returns : goal.returns
returns c =
    let cuts = c.in_ok-part.ensures in
    let z = c.in_ok-number.field-0 in
    let back = same_word z c.in_ok-number.ensures.small in (
      ap first_number cuts.cut ∙ number_reads _ ∙ sym c.in_ok-number.ensures.is ∙ ap Some (sym back),
      record { rest = sym (ap (drop 1) cuts.cut); shorter = cuts.shorter },
      (omega (arith, ints, c.in_ok-number.ensures.small), omega (arith, ints, c.in_ok-number.ensures.small)),
    )
