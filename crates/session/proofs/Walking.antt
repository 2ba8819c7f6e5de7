-- Chains of predecessors, as the graph search finds them.
use Rattle.std.proofs.Common.{◌≡◌, ℕ, zero, suc, true, subst, inl, inr}
use mathlib.Core.Path.{fun_ext}
use Rattle.std.proofs.lemmas.Bool.{cases_Bool}
use Rattle.basics.specs.Sets.{has}
use Rattle.basics.proofs.Masks.{has_empty, no_member}
use Rattle.graph.specs.Walks.{Walk, Reached}

-- no walk leads from where nothing starts
walk_none : (f : ℕ → ℕ) (t : ℕ) → f t ≡ 0 → (n u : ℕ) → Walk (λ i j. has (f i) j) (f t) n u → ⊥
walk_none f t e zero u h = no_member u (subst (λ m. has m u ≡ true) e h)
walk_none f t e (suc n) u (i, (a, h)) = walk_none f t e n i a

-- the same is reached by masks that are equal
pub same_reached : (f g : ℕ → ℕ) (t r : ℕ) → ((k : ℕ) → f k ≡ g k) → Reached (λ i j. has (f i) j) (f t) r → Reached (λ i j. has (g i) j) (g t) r
same_reached f g t r same found = subst (λ (h : ℕ → ℕ). Reached (λ i j. has (h i) j) (h t) r) (fun_ext same) found

-- nothing is reached from where nothing starts
pub none_reached : (f : ℕ → ℕ) (t r : ℕ) → f t ≡ 0 → Reached (λ i j. has (f i) j) (f t) r → r ≡ 0
none_reached f t r e found = has_empty r (λ k. elim (cases_Bool (has r k)) [
  | inl h ↦ absurd (walk_none f t e ((found k).0 h).0 k ((found k).0 h).1)
  | inr h ↦ h
])
