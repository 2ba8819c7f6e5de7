use Rattle.std.proofs.Common.{◌≡◌, ◌<◌, true, eqb, ap, ◌∙◌, inl, inr, arith, w64}
use Rattle.std.specs.Int.{trailing_zeros}
use Rattle.std.proofs.lemmas.Bool.{cases_lt, both_ways}
use Rattle.std.proofs.lemmas.Nat.Bits.{bit_at-trailing_zeros}
use Rattle.basics.specs.Sets.{has}
use Rattle.basics.proofs.Masks.{has_past}
use Rattle.basics.proofs.set.NumberSet.first.Goals as goal

pub returns : goal.returns
returns g c =
    let w = g.Self.NumberSet.WIDTH in
    let bits = c.bits-bits.result in
    let n = trailing_zeros w64 bits in
    let lowest = bit_at-trailing_zeros w64 bits (omega arith) (omega arith) in
    let member : has bits n ≡ true = ap (λ x. eqb x 1) lowest.1 in
    let below : n < w = elim (cases_lt n w) [
      | inl l ↦ l
      | inr past ↦ absurd (both_ways (has bits n) (has_past w bits n c.bits-bits.ensures.fits past) member)
    ] in
    let e : g.Self.Number.Numbered.number c.of_number.result ≡ n = ap g.Self.Number.Numbered.number c.of_number.ensures ∙ g.met.Self.Number.Numbered.same_number _ in
    rw (e, ← c.bits-bits.ensures.mask) (record { member = member; least = λ k l. ap (λ x. eqb x 1) (lowest.2 k l); below = below })
