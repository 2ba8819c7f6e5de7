-- Lists of scripts: what is left of them, and whose turn it is.
use Rattle.std.proofs.Common.{◌≡◌, ℕ, zero, suc, ◌+◌, ◌<◌, ◌≤◌, Bool, true, false, ◌&&◌, leb, ◌⊎◌, List, [], ◌∷◌, map, length, get_or, set, Some, None, refl, ap, ◌∙◌, inl, inr, arith}
use Rattle.std.proofs.lemmas.Bool.{true≢false, cases_eq, cases_Bool, and_parts, and_cases, and_from, not-false, le-leb, leb-true, both_ways}
use Rattle.model.specs.Calls.{or_else}
use Rattle.model.specs.Order.{lowest}
use Rattle.scripts_model.specs.Script.{Action, Script, going, finished}
use Rattle.scripts_model.specs.Schedule.{is_finished, unfinished, all_finished, from_on, in_round}
use Rattle.scripts_model.specs.Finishes.{steps_of}

-- the steps that a script has left, its end counted
abbrev pub size : Script → ℕ
size (going xs) = length xs + 1
size finished = 0

abbrev pub left : List Script → ℕ
left [] = 0
left (x ∷ xs) = size x + left xs

pub left_set : (l : List Script) (t : ℕ) (x : Script) → t < length l → left (set l t x) + size (get_or l t finished) ≡ left l + size x
left_set [] t x h = absurd (omega arith)
left_set (y ∷ l) zero x h = omega arith
left_set (y ∷ l) (suc t) x h = omega (arith, left_set l t x (omega arith))

pub left_some : (l : List Script) (t : ℕ) → size (get_or l t finished) ≤ left l
left_some [] t = omega arith
left_some (y ∷ l) zero = omega arith
left_some (y ∷ l) (suc t) = omega (arith, left_some l t)

pub left_first : (scripts : List (List Action)) → left (map going scripts) ≡ steps_of scripts
left_first [] = refl
left_first (x ∷ xs) = omega (arith, left_first xs)

pub left_none : (l : List Script) → ((t : ℕ) → t < length l → unfinished l t ≡ false) → left l ≡ 0
left_none [] f = refl
left_none (going xs ∷ l) f = absurd (true≢false (f 0 (omega arith)))
left_none (finished ∷ l) f = omega (arith, left_none l (λ t h. f (suc t) (omega arith)))

pub all_are_finished : (l : List Script) → ((t : ℕ) → t < length l → unfinished l t ≡ false) → all_finished l ≡ true
all_are_finished [] f = refl
all_are_finished (x ∷ l) f =
    and_from (is_finished x) (all_finished l) (not-false _ (f 0 (omega arith))) (all_are_finished l (λ t h. f (suc t) (omega arith)))

-- the lowest below k that passes, with none below it; or none passes
pub lowest_is : (p : ℕ → Bool) (k : ℕ)
    → ((t : ℕ) × (lowest p k ≡ Some t) × (t < k) × (p t ≡ true) × ((u : ℕ) → u < t → p u ≡ false))
    ⊎ ((lowest p k ≡ None) × ((u : ℕ) → u < k → p u ≡ false))
lowest_is p zero = inr (refl, λ u h. absurd (omega arith))
lowest_is p (suc k) = elim (lowest_is p k) [
  | inl (t, e, l, h, f) ↦ inl (t, rw e refl, omega arith, h, f)
  | inr (e, f) ↦ elim (cases_Bool (p k)) [
    | inl h ↦ inl (k, rw (e, h) refl, omega arith, h, f)
    | inr h ↦ inr (rw (e, h) refl, λ u l. elim (cases_eq u k) [ inl q ↦ ap p q ∙ h | inr g ↦ f u (omega arith) ])
  ]
]

-- whose turn it is in a round
pub data Place (l : List Script) (place : ℕ) : Type 0 where
  -- nobody's: all are finished
  nobody : in_round l place ≡ None → ((u : ℕ) → u < length l → unfinished l u ≡ false) → Place l place
  -- t, the next from the place on
  onwards : (t : ℕ) → in_round l place ≡ Some t → t < length l → unfinished l t ≡ true → place ≤ t
      → ((u : ℕ) → place ≤ u → u < t → unfinished l u ≡ false) → Place l place
  -- t, the first of a new round, since from the place on all are finished
  again : (t : ℕ) → in_round l place ≡ Some t → t < length l → unfinished l t ≡ true
      → ((u : ℕ) → u < t → unfinished l u ≡ false) → ((u : ℕ) → place ≤ u → u < length l → unfinished l u ≡ false) → Place l place

pub place_of : (l : List Script) (place : ℕ) → Place l place
place_of l place = elim (lowest_is (λ t. leb place t && unfinished l t) (length l)) [
  | inl (t, e, h, p, f) ↦
      let (a, b) = and_parts (leb place t) (unfinished l t) p in
      onwards t (ap (λ o. or_else o (from_on l 0)) e) h b (leb-true place t a) (λ u g m. passed place u g (f u m))
  | inr (e, f) ↦ elim (lowest_is (λ t. leb 0 t && unfinished l t) (length l)) [
    | inl (t, d, h, p, g) ↦
        again t (ap (λ o. or_else o (from_on l 0)) e ∙ d) h (and_parts (leb 0 t) (unfinished l t) p).1 (λ u m. passed 0 u (omega arith) (g u m)) (λ u m n. passed place u m (f u n))
    | inr (d, g) ↦ nobody (ap (λ o. or_else o (from_on l 0)) e ∙ d) (λ u m. passed 0 u (omega arith) (g u m))
  ]
]
  where
    passed : (p u : ℕ) → p ≤ u → (leb p u && unfinished l u) ≡ false → unfinished l u ≡ false
    passed p u g e = elim (and_cases (leb p u) (unfinished l u) e) [
      | inl a ↦ absurd (both_ways (leb p u) a (le-leb p u g))
      | inr a ↦ a
    ]
