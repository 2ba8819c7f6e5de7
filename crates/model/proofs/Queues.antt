-- Those that wait join the lockers of their nodes, and of any transactions one is preceded by none of them.
use Rattle.std.proofs.Common.{◌≡◌, ℕ, cond, eqb, List, ◌∷◌, ◌++◌, filter, refl, inl, inr}
use Rattle.std.proofs.lemmas.Bool.{eqb-true, eq-eqb, ne_eqb, cases_eq, cond-true, cond-false}
use Rattle.basics.proofs.Masks.{no_member}
use Rattle.rules.specs.Rule.{Rule}
use Rattle.model.specs.Lists.{In, Before, Distinct}
use Rattle.model.proofs.Lists.{in_last, before_keep, before_across, distinct_append, distinct_kept_by, in_kept_by, kept_by_in}
use Rattle.model.proofs.Members.{◌∈◌}
use Rattle.model.proofs.Minimal.{minimal_exists}
use Rattle.model.proofs.Views.{View, May, Allowed, Kept, Waiting}
use Rattle.model.proofs.Locking.{waiting_descending}

module _ (rule : Rule) (s : View) (k : Kept rule s) (U : List ℕ) (want : ℕ → ℕ)
    (asks : (t : ℕ) → In t U → May rule (want t) (s.locked t) (s.held t)) where
  -- the entry of t, once it has what it asks for
  first : ℕ → ℕ
  first t = cond (eqb (s.locked t) 0) (want t) (s.entry t)

  first_old : (n t : ℕ) → In t (s.lockers n) → first t ≡ s.entry t
  unfolding first
  first_old n t j = cond-false _ _ _ (ne_eqb (s.locked t) 0 (λ z. no_member n (rw z at ((k.locked_is n t).1 j))))

  first_allowed : (t : ℕ) → In t U → Allowed rule s (want t) t (first t)
  unfolding first
  first_allowed t i = elim (cases_eq (s.locked t) 0) [
    | inl z ↦ inl (z, cond-true _ _ _ (eq-eqb (s.locked t) 0 z))
    | inr f ↦ inr (f, asks t i, cond-false _ _ _ (ne_eqb (s.locked t) 0 f))
  ]

  module _ (distinct : Distinct U) (new : (t : ℕ) → In t U → In t (s.lockers (want t)) → ⊥) where
    queue : ℕ → List ℕ
    queue n = filter (λ t. eqb (want t) n) U

    in_queue : (n t : ℕ) → In t (queue n) → In t U × (want t ≡ n)
    unfolding queue
    in_queue n t i = let j = in_kept_by (λ t. eqb (want t) n) U t i in (j.0, eqb-true _ _ j.1)

    waiting : Waiting rule s queue first
    unfolding queue
    waiting = record {
      distinct = λ n. distinct_append (s.lockers n) (queue n) (k.descending.distinct n) (distinct_kept_by _ U distinct)
          (λ u i j. let (l, q) = in_queue n u j in new u l (rw q i));
      allowed = λ n t i. let (l, q) = in_queue n t i in rw (← q) (first_allowed t l);
      entries = first_old;
    }

    waits_first : (w n u : ℕ) → In w U → want w ≡ n → n ∈ s.held u → Before u w (s.lockers n ++ queue n)
    unfolding queue
    waits_first w n u i q h =
        let (xs, z) = k.held_last n u h in
        before_across (s.lockers n) (queue n) u w (rw z (in_last xs u)) (kept_by_in (λ t. eqb (want t) n) U w i (eq-eqb _ _ q))

    -- of any transactions, one that none of them precedes, as a locker or as the holder of a node that it waits for
    pub minimal_of_all : (x : ℕ) (xs : List ℕ) → (w : ℕ) × In w (x ∷ xs)
        × ((u n : ℕ) → In u (x ∷ xs) → Before u w (s.lockers n) → ⊥)
        × ((u : ℕ) → In u (x ∷ xs) → In w U → want w ∈ s.held u → ⊥)
    minimal_of_all x xs =
        let (w, i, least) = minimal_exists _ _ (waiting_descending rule s k _ _ waiting) x xs in (
          w,
          i,
          λ u n j b. least u n j (before_keep (s.lockers n) (queue n) u w b),
          λ u j l h. least u (want w) j (waits_first w (want w) u l refl h),
        )
