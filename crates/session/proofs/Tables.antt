-- Arrays made by calls of a closure that stays as it was.
use Rattle.std.proofs.Common.{◌≡◌, ℕ, zero, suc, ◌+◌, ◌<◌, ◌≤◌, List, slice_index_or, sym, subst, inl, inr, arith}
use Rattle.std.proofs.lemmas.Bool.{cases_eq}
use Rattle.std.specs.Array.{IsFromFnResultFrom}
use denote.Param.Members.{Mut, Called}

-- what each call says of its number and its answer holds of the array's elements
module _ {F B : Type 0} (g : Mut F (ℕ × Unit {0}) B) (f : F) (P : ℕ → B → Type 0)
    (says : (i : ℕ) (y : B) (q : F) → Called g f (i, tt) y q → (q ≡ f) × P i y) where
  pub made_at : (n i : ℕ) (ys : List B) → IsFromFnResultFrom g f ys i n → (k : ℕ) (d : B) → i ≤ k → k < i + n → P k (slice_index_or ys k d)
  made_at zero i ys h k d a b = absurd (omega arith)
  made_at (suc n) i ys h k d a b =
      let (same, here) = says i h.1 h.0 h.3 in
      elim (cases_eq i k) [
        | inl e ↦ subst (λ j. P j (slice_index_or ys j d)) e (subst (λ y. P i y) (sym (h.2.1 d)) here)
        | inr e ↦ made_at n (i + 1) ys (subst (λ p. IsFromFnResultFrom g p ys (i + 1) n) same h.4) k d (omega arith) (omega arith)
      ]
