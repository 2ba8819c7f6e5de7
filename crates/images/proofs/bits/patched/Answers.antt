use Rattle.std.proofs.Common.{◌-◌, inl, inr, arith}
use lib.Bits.{bit_and}
use Rattle.std.proofs.lemmas.Bool.{cases_lt}
use Rattle.std.proofs.lemmas.Bool.Decides.{nat_tests}
use Rattle.basics.proofs.Masks.{has_or, has_and, has_clear, has_past}
use Rattle.images.proofs.bits.patched.Goals as goal

pub returns : goal.returns
returns c = λ p.
    let byte = c.args.byte in
    let mask = c.args.mask in
    let both = has_or (bit_and byte (255 - mask)) (bit_and c.args.bits mask) p in
    let kept = has_and byte (255 - mask) p in
    let taken = has_and c.args.bits mask p in
    let clear = has_clear 8 mask p (omega arith) in
    elim (cases_lt p 8) [
      | inl low ↦ grind (arith, nat_tests)
      | inr high ↦ let none = has_past 8 byte p (omega arith) high in grind (arith, nat_tests)
    ]
