use Rattle.std.proofs.Common.{◌≡◌, ◌-◌, ◌^◌, ap, ◌∙◌, arith}
use Rattle.std.proofs.Math.Nat.{mod-eq_of_lt}
use lib.Bits.{bit_and, and_le_l}
use Rattle.basics.specs.Sets.{has}
use Rattle.basics.proofs.Masks.{has_minus}
use Rattle.basics.proofs.set.NumberSet.difference.Goals as goal

pub returns : goal.returns
returns g c =
    let a = c.bits.result in
    let b = c.bits-2.result in
    let e : g.Self.NumberSet.mask c.of_bits.result ≡ bit_and a (2 ^ 64 - 1 - b) = c.of_bits.ensures ∙ mod-eq_of_lt (omega (arith, and_le_l a (2 ^ 64 - 1 - b))) in
    rw (← c.bits.ensures.mask, ← c.bits-2.ensures.mask) (λ k. ap (λ m. has m k) e ∙ has_minus 64 a b k (omega arith) (omega arith))
