use Rattle.std.proofs.Common.{◌≡◌, ℕ, ◌-◌, ◌<◌, true, false, drop, pos, negsuc, ◌-ℤ◌, Some, None, sym, ap, ◌∙◌, arith, w32, to_z, of_z}
use mathlib.Core.Path.{subst⁻¹}
use Rattle.std.proofs.lemmas.Int.{ints}
use Rattle.runtext.specs.Numerals.{numeral_read, Small}
use Rattle.runtext.proofs.Digits.{negated, no_minus_zero, not_negated, minus_first, with_minus, without_minus}
use Rattle.runtext.proofs.number.number.Goals as goal

pub returns-in_err-n-in-Some : goal.returns-in_err-n-in-Some
returns-in_err-n-in-Some c =
    let bytes = c.args.bytes.now in
    let (minus, digits, long) = c.in-Some.ensures.cases in
    record {
      is = c.from_residual.ensures ∙ sym (with_minus bytes (minus_first bytes true minus) ∙ not_negated (drop 1 bytes) (ap numeral_read (sym digits) ∙ sym c.in_err-n-in-Some.ensures.is));
      small = subst⁻¹ Small c.from_residual.ensures tt;
    }

pub returns-in-0 : goal.returns-in-0
returns-in-0 c =
    let bytes = c.args.bytes.now in
    let (minus, digits, long) = c.in-Some.ensures.cases in
    record {
      is = sym (with_minus bytes (minus_first bytes true minus) ∙ no_minus_zero (drop 1 bytes) (ap numeral_read (sym digits) ∙ sym c.in_ok-n-in-Some.ensures.is ∙ ap Some c.in-0.is));
      small = tt;
    }

below : (n : ℕ) → 0 < n → n < 100000 → to_z w32 (of_z w32 (pos 0 -ℤ to_z w32 n)) ≡ negsuc (n - 1)
below n h l = omega (arith, ints)

pub returns-in_default : goal.returns-in_default
returns-in_default c =
    let bytes = c.args.bytes.now in
    let n = c.in_ok-n-in-Some.n in
    let (minus, digits, long) = c.in-Some.ensures.cases in
    let some : 0 < n = omega arith in
    let few = c.in_ok-n-in-Some.ensures.small in
    let e = below n some few in
    record {
      is = ap Some e ∙ sym (with_minus bytes (minus_first bytes true minus) ∙ negated (drop 1 bytes) n (ap numeral_read (sym digits) ∙ sym c.in_ok-n-in-Some.ensures.is) some);
      small = (omega (arith, ints), omega (arith, ints));
    }

pub returns-in_err-numeral-in-None : goal.returns-in_err-numeral-in-None
returns-in_err-numeral-in-None c = record {
  is = c.from_residual-in_err-numeral-in-None.ensures ∙ sym (without_minus c.args.bytes.now (minus_first c.args.bytes.now false c.in-None.ensures.cases) None (sym c.in_err-numeral-in-None.ensures.is));
  small = subst⁻¹ Small c.from_residual-in_err-numeral-in-None.ensures tt;
}

above : (n : ℕ) → n < 100000 → to_z w32 n ≡ pos n
above n l = omega (arith, ints)

pub returns-in_ok-numeral-in-None : goal.returns-in_ok-numeral-in-None
returns-in_ok-numeral-in-None c =
    let n = c.in_ok-numeral-in-None.field-0 in
    let few = c.in_ok-numeral-in-None.ensures.small in
    let e = above n few in
    record {
      is = ap Some e ∙ sym (without_minus c.args.bytes.now (minus_first c.args.bytes.now false c.in-None.ensures.cases) (Some n) (sym c.in_ok-numeral-in-None.ensures.is));
      small = (omega (arith, ints), omega (arith, ints));
    }
