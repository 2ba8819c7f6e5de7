use Rattle.std.proofs.Common.{◌≡◌, ◌%◌, ◌^◌, sym, ap, ◌∙◌, arith}
use Rattle.std.proofs.Math.Nat.{mod-eq_of_lt}
use Rattle.std.proofs.lemmas.Bool.{cond-false, le-ltb}
use Rattle.basics.specs.Sets.{has, without_member}
use Rattle.basics.proofs.Masks.{has_without, shifted_without, without_lt}
use Rattle.basics.proofs.set.NumberSet.without.Goals as goal

pub returns-then-n-WIDTH : goal.returns-then-n-WIDTH
returns-then-n-WIDTH g c =
    let w = g.Self.NumberSet.WIDTH in
    let m = c.bits-bits.result in
    let n = c.number-n.result in
    let fits = c.bits-bits.ensures.fits in
    let narrow = g.met.Self.NumberSet.narrow in
    let removed = shifted_without 64 w m n (omega arith) narrow fits in
    let e : g.Self.NumberSet.mask c.of_bits.result ≡ without_member w m n = c.of_bits.ensures ∙ ap (λ x. x % 2 ^ w) removed ∙ mod-eq_of_lt (without_lt w m n fits) in
    rw (← c.bits-bits.ensures.mask, ← c.number-n.ensures) (record { mask = e; members = λ k. ap (λ s. has s k) e ∙ has_without w m n k fits })

pub returns-else-n-WIDTH : goal.returns-else-n-WIDTH
returns-else-n-WIDTH g c =
    let w = g.Self.NumberSet.WIDTH in
    let m = c.bits-bits.result in
    let n = c.number-n.result in
    let e : m ≡ without_member w m n = sym (cond-false _ _ m (le-ltb n w (omega arith))) in
    rw (← c.bits-bits.ensures.mask, ← c.number-n.ensures) (record { mask = e; members = λ k. ap (λ s. has s k) e ∙ has_without w m n k c.bits-bits.ensures.fits })
