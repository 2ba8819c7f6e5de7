use Rattle.std.proofs.Common.{◌≡◌, ap, ◌∙◌}
use Rattle.std.proofs.Math.Nat.{mod-eq_of_lt}
use lib.Bits.{bit_or, or_lt}
use Rattle.basics.specs.Sets.{has}
use Rattle.basics.proofs.Masks.{has_or}
use Rattle.basics.proofs.set.NumberSet.union.Goals as goal

pub returns : goal.returns
returns g c =
    let a = c.bits.result in
    let b = c.bits-2.result in
    let e : g.Self.NumberSet.mask c.of_bits.result ≡ bit_or a b = c.of_bits.ensures ∙ mod-eq_of_lt (or_lt _ a b c.bits.ensures.fits c.bits-2.ensures.fits) in
    rw (← c.bits.ensures.mask, ← c.bits-2.ensures.mask) (record { mask = e; members = λ k. ap (λ m. has m k) e ∙ has_or a b k })
