-- Members of a mask, as facts.
use Rattle.std.proofs.Common.{◌≡◌, ℕ, true, false, ◌⊎◌, inl, inr}
use Rattle.std.proofs.lemmas.Bool.{cases_Bool, both_ways}
use Rattle.basics.specs.Sets.{has}

infix 60 ◌∈◌
-- n is a member of the mask m
abbrev pub ◌∈◌ : ℕ → ℕ → Type 0
n ∈ m = has m n ≡ true

-- each member of a is one of b
abbrev pub Within : ℕ → ℕ → Type 0
Within a b = (n : ℕ) → n ∈ a → n ∈ b

pub cases_in : (m n : ℕ) → (n ∈ m) ⊎ (n ∈ m → ⊥)
cases_in m n = elim (cases_Bool (has m n)) [ inl h ↦ inl h | inr e ↦ inr (both_ways (has m n) e) ]

pub lacks : (m n : ℕ) → (n ∈ m → ⊥) → has m n ≡ false
lacks m n f = elim (cases_Bool (has m n)) [ inl h ↦ absurd (f h) | inr e ↦ e ]
