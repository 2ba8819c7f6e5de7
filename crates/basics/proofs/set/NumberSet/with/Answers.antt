use Rattle.std.proofs.Common.{◌≡◌, ◌%◌, ◌^◌, ap, ◌∙◌, arith}
use Rattle.std.proofs.Math.Nat.{mod-eq_of_lt}
use Rattle.basics.specs.Sets.{has, with_member}
use Rattle.basics.proofs.Masks.{has_with, shifted_with, with_lt}
use Rattle.basics.proofs.set.NumberSet.with.Goals as goal

pub returns-then-n-WIDTH : goal.returns-then-n-WIDTH
returns-then-n-WIDTH g c =
    let w = g.Self.NumberSet.WIDTH in
    let m = c.bits-bits.result in
    let n = c.number-n.result in
    let narrow = g.met.Self.NumberSet.narrow in
    let added = shifted_with 64 w m n (omega arith) narrow in
    let e : g.Self.NumberSet.mask c.of_bits.result ≡ with_member w m n = c.of_bits.ensures ∙ ap (λ x. x % 2 ^ w) added ∙ mod-eq_of_lt (with_lt w m n c.bits-bits.ensures.fits) in
    rw (← c.bits-bits.ensures.mask, ← c.number-n.ensures) (record { mask = e; members = λ k. ap (λ s. has s k) e ∙ has_with w m n k })
