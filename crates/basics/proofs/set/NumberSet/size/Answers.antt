use Rattle.std.proofs.Common.{ap, arith}
use Rattle.basics.specs.Sets.{has, counted}
use Rattle.basics.proofs.Masks.{counted_ones, counted_le}
use Rattle.basics.proofs.set.NumberSet.size.Goals as goal

-- by the number alone, in whatever form it is answered: the members are as many as the ones of the mask, and at most the width
pub returns : goal.returns
returns g c =
    let mask = c.bits.result in
    let members = ap (λ m. counted (has m) g.Self.NumberSet.WIDTH) c.bits.ensures.mask in
    omega (arith, members, counted_ones g.Self.NumberSet.WIDTH mask c.bits.ensures.fits, counted_le (has mask) g.Self.NumberSet.WIDTH)
