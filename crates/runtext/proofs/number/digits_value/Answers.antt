use Rattle.std.proofs.Common.{◌≡◌, ℕ, true, leb, get_or, ◌^◌, ◌<◌, ◌≤◌, sym, ◌∙◌, lt_of_lt_of_le, arith, pow-add}
use native.Mathlib.Nat.{pow-le-pow_right}
use Rattle.std.proofs.lemmas.Bool.{and_parts, leb-true}
use Rattle.runtext_model.specs.Words.{is_digit}
use Rattle.runtext.proofs.Digits.{digits_more, digits_bad, digits_done}
use Rattle.runtext.proofs.number.digits_value.Goals as goal

pub returns-then-not-is_ascii_digit : goal.returns-then-not-is_ascii_digit
returns-then-not-is_ascii_digit c = record {
  is = sym (digits_bad c.loop-b.n c.args.digits.now c.loop-b.b-index c.loop-b-test.true (sym c.is_ascii_digit.ensures.value ∙ c.if-not-is_ascii_digit.true)) ∙ c.loop-b.invariant.0;
  small = tt;
}

pub loop-b-preserved : goal.loop-b-preserved
loop-b-preserved c =
    let i = c.loop-b.b-index in
    let ds = c.args.digits.now in
    let digit : is_digit (get_or ds i 0) ≡ true = sym c.is_ascii_digit.ensures.value ∙ c.if-not-is_ascii_digit.false in
    let (low, high) = and_parts (leb 48 (get_or ds i 0)) _ digit in (
      sym (digits_more c.loop-b.n ds i c.loop-b-test.true digit) ∙ c.loop-b.invariant.0,
      omega (arith, pow-add 10 i 1, leb-true 48 (get_or ds i 0) low, leb-true (get_or ds i 0) 57 high),
    )

short : (i n : ℕ) → i ≤ 5 → n < 10 ^ i → n < 100000
short i n h l = lt_of_lt_of_le l (pow-le-pow_right (omega arith) h)

pub returns : goal.returns
returns c = record {
  is = sym (digits_done c.loop-b.n c.args.digits.now c.loop-b.b-index c.loop-b-test.false) ∙ c.loop-b.invariant.0;
  small = short c.loop-b.b-index _ (omega arith) c.loop-b.invariant.1;
}
