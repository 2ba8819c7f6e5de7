-- The lists of lockers after t is added at node n.
use Rattle.std.proofs.Common.{◌≡◌, ℕ, ◌⊎◌, ◌↔◌, List, [], ◌∷◌, ◌++◌, refl, inl, inr}
use Rattle.std.proofs.lemmas.Bool.{cases_eq}
use Rattle.model.specs.Lists.{In, Before}
use Rattle.model.proofs.Lists.{in_left, in_last, in_push, before_keep, before_last, before_push}

module _ (C C' : ℕ → List ℕ) (n t : ℕ) (here : C' n ≡ C n ++ (t ∷ [])) (elsewhere : (m : ℕ) → (m ≡ n → ⊥) → C' m ≡ C m) where
  pub in_pushed : (m u : ℕ) → In u (C' m) ↔ (In u (C m) ⊎ ((m ≡ n) × (u ≡ t)))
  in_pushed m u = elim (cases_eq m n) [
    | inl q ↦ rw (q, here) (
      λ i. elim (in_push (C n) t u i) [ inl j ↦ inl j | inr z ↦ inr (refl, z) ],
      elim [ inl j ↦ in_left (C n) (t ∷ []) u j | inr z ↦ rw z.1 (in_last (C n) t) ],
    )
    | inr f ↦ rw (elsewhere m f) (λ i. inl i, elim [ inl j ↦ j | inr z ↦ absurd (f z.0) ])
  ]

  pub before_pushed : (m u v : ℕ) → Before u v (C' m) ↔ (Before u v (C m) ⊎ ((m ≡ n) × In u (C n) × (v ≡ t)))
  before_pushed m u v = elim (cases_eq m n) [
    | inl q ↦ rw (q, here) (
      λ b. elim (before_push (C n) t u v b) [ inl c ↦ inl c | inr z ↦ inr (refl, z.0, z.1) ],
      elim [ inl c ↦ before_keep (C n) (t ∷ []) u v c | inr z ↦ rw z.2 (before_last (C n) t u z.1) ],
    )
    | inr f ↦ rw (elsewhere m f) (λ b. inl b, elim [ inl c ↦ c | inr z ↦ absurd (f z.0) ])
  ]
