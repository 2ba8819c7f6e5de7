-- Equal masks have the same members, and no others do: proofs only, nothing here has to be believed.
use Rattle.std.specs.Prelude.{◌≡◌, ℕ, zero, suc, ◌+◌, ◌/◌, ◌%◌, ◌^◌, ◌<◌, true, ◌↔◌, ◌==◌}
use Rattle.std.proofs.Common.{sym, ap, ◌∙◌, inl, inr, div-one, one-add, arith, shr-shr}
use Rattle.std.proofs.lemmas.Bool.{cases_eq, eqb-true, eq-eqb}
use Rattle.std.proofs.lemmas.Bool.Decides.{nat_tests}
use Rattle.basics.specs.Sets.{has}

pub half_bit : (m n : ℕ) → m / 2 ^ suc n % 2 ≡ m / 2 / 2 ^ n % 2
half_bit m n = ap (λ x. x % 2) (sym (rw one-add at (shr-shr m 1 n)))

ext_within : (f a b : ℕ) → a + b < f → ((n : ℕ) → a / 2 ^ n % 2 ≡ b / 2 ^ n % 2) → a ≡ b
ext_within zero a b h e = absurd (omega arith)
ext_within (suc f) a b h e = elim (cases_eq (a + b) 0) [
  | inl q ↦ omega arith
  | inr g ↦
      let low : a % 2 ≡ b % 2 = ap (λ x. x % 2) (sym (div-one a)) ∙ e 0 ∙ ap (λ x. x % 2) (div-one b) in
      let high : a / 2 ≡ b / 2 = ext_within f (a / 2) (b / 2) (omega (arith, g)) (λ n. sym (half_bit a n) ∙ e (suc n) ∙ half_bit b n) in
      omega arith
]

bit_from_has : (a b n : ℕ) → has a n ≡ has b n → a / 2 ^ n % 2 ≡ b / 2 ^ n % 2
bit_from_has a b n e = grind (arith, nat_tests)

-- sets with the same members are equal
pub same_masks : (a b : ℕ) → ((n : ℕ) → has a n ≡ has b n) → a ≡ b
same_masks a b e = ext_within (suc (a + b)) a b (omega arith) (λ n. bit_from_has a b n (e n))

pub masks_alike : (a b : ℕ) → ((a == b) ≡ true) ↔ ((k : ℕ) → has a k ≡ has b k)
masks_alike a b = (λ e k. ap (λ m. has m k) (eqb-true a b e), λ f. eq-eqb a b (same_masks a b f))
