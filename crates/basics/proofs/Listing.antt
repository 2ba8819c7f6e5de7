-- Lists of nodes, one node further.
use Rattle.std.specs.List.{AllAdjacentBelow, IsAllAdjacentAnswer}
use Rattle.std.proofs.Common.{◌≡◌, ℕ, zero, suc, ◌+◌, ◌<◌, ◌≤◌, Bool, true, false, add-one, ◌&&◌, ◌||◌, eqb, ltb, List, [], ◌∷◌, length, get_or, drop, set, sym, refl, ap, ◌∙◌, inl, inr, ⊎_elim, arith, get_or-set_other, get_or-set_same}
use Rattle.std.proofs.lemmas.List.{at_drop_more}
use Rattle.std.proofs.lemmas.Bool.{lt-ltb, ltb-true, eqb-true, eq-eqb, and_parts, and_from, and_right, or_cases, or_left, cases_lt, cases_eq, both_ways, false≢true}
use Rattle.std.proofs.lemmas.Bool.Decides.{nat_tests}
use Rattle.basics.specs.declared.node.NodeNumber.{NodeNumber}
use Rattle.basics.specs.Sets.{has, with_member}
use Rattle.basics.specs.Lists.{all_below, rising_by, listed, gathered}
use Rattle.basics.proofs.Masks.{has_with, has_none}

-- Rattle's own default for an element
abbrev pub nought : NodeNumber
nought = record { 0 = 0 }

-- what `is_sorted_by` answers, where it compares by <
rises : {A : Type 0} (number : A → ℕ) (xs : List A) → AllAdjacentBelow (λ x y. true ≡ ltb (number x) (number y)) xs (length xs) → true ≡ rising_by number xs
rises number [] h = refl
rises number (x ∷ []) h = refl
rises number (x ∷ (y ∷ ys)) h =
    let rest = rises number (y ∷ ys) (λ k d l. rw add-one (rw add-one at (h (suc k) d (omega arith)))) in
    let here : true ≡ ltb (number x) (number y) = h 0 x (omega arith) in
    rw (← here) rest

falls : {A : Type 0} (number : A → ℕ) (xs : List A) (k : ℕ) → suc k < length xs → ((d : A) → false ≡ ltb (number (get_or xs k d)) (number (get_or xs (suc k) d))) → false ≡ rising_by number xs
falls number [] k l h = absurd (omega arith)
falls number (x ∷ []) k l h = absurd (omega arith)
falls number (x ∷ (y ∷ ys)) zero l h = let here = h x in rw (← here) refl
falls number (x ∷ (y ∷ ys)) (suc k) l h =
    let rest = falls number (y ∷ ys) k (omega arith) h in
    sym (and_right (ltb (number x) (number y)) _ (sym rest))

pub rising_answer : {A : Type 0} (number : A → ℕ) (xs : List A) (r : Bool) → IsAllAdjacentAnswer (λ x y b. b ≡ ltb (number x) (number y)) xs r → r ≡ rising_by number xs
rising_answer number xs true h = rises number xs h
rising_answer number xs false h = falls number xs h.0 (omega (arith, h.1)) (λ d. rw add-one at (h.2 d))

pub gathered_next : (m : ℕ) (ns : List NodeNumber) (i : ℕ) → i < length ns → gathered m (drop i ns) ≡ gathered (with_member 64 m (get_or ns i nought).0) (drop (i + 1) ns)
gathered_next m ns i h = at_drop_more (gathered m) ns i nought h

gathered_has : (m : ℕ) (ns : List NodeNumber) (k : ℕ) → has (gathered m ns) k ≡ (has m k || (listed ns k && ltb k 64))
gathered_has m [] k = grind (arith, nat_tests)
gathered_has m (n ∷ ns) k =
    let e = gathered_has (with_member 64 m n.0) ns k in
    let w = has_with 64 m n.0 k in
    grind (arith, nat_tests)

pub set_has : (ns : List NodeNumber) (k : ℕ) → has (gathered 0 ns) k ≡ (listed ns k && ltb k 64)
set_has ns k = let e = gathered_has 0 ns k in let z = has_none k in grind (arith, nat_tests)

pub listed_below : (limit : ℕ) (ns : List NodeNumber) (k : ℕ) → all_below limit ns ≡ true → listed ns k ≡ true → k < limit
listed_below limit [] k b h = absurd (false≢true h)
listed_below limit (n ∷ ns) k b h =
    let (here, rest) = and_parts (ltb n.0 limit) (all_below limit ns) b in
    ⊎_elim
    (λ e. let q = eqb-true k n.0 e in let l = ltb-true n.0 limit here in omega arith)
    (λ e. listed_below limit ns k rest e)
    (or_cases (eqb k n.0) (listed ns k) h)

-- a member of the set of a list is below what every node of the list is below
pub set_below : (limit : ℕ) (ns : List NodeNumber) (k : ℕ) → all_below limit ns ≡ true → has (gathered 0 ns) k ≡ true → k < limit
set_below limit ns k b h = listed_below limit ns k b (and_parts (listed ns k) (ltb k 64) (sym (set_has ns k) ∙ h)).0

-- the set of a list that has nodes is not empty
pub set_some : (ns : List NodeNumber) → all_below 64 ns ≡ true → (length ns ≡ 0 → ⊥) → 0 < gathered 0 ns
set_some [] b some = absurd (some refl)
set_some (n ∷ ns) b some =
    let l = (and_parts (ltb n.0 64) (all_below 64 ns) b).0 in
    let first : has (gathered 0 (n ∷ ns)) n.0 ≡ true = set_has (n ∷ ns) n.0 ∙ and_from _ _ (or_left _ _ (eq-eqb n.0 n.0 refl)) l in
    elim (cases_lt 0 (gathered 0 (n ∷ ns))) [
      | inl p ↦ p
      | inr z ↦
          let e : gathered 0 (n ∷ ns) ≡ 0 = omega arith in
          absurd (both_ways (has 0 n.0) (has_none n.0) (ap (λ m. has m n.0) (sym e) ∙ first))
    ]

pub all_below_more : (a b : ℕ) (ns : List NodeNumber) → a ≤ b → all_below a ns ≡ true → all_below b ns ≡ true
all_below_more a b [] le h = refl
all_below_more a b (n ∷ ns) le h =
    let (here, rest) = and_parts (ltb n.0 a) (all_below a ns) h in
    let l = ltb-true n.0 a here in
    and_from (ltb n.0 b) (all_below b ns) (lt-ltb n.0 b (omega arith)) (all_below_more a b ns le rest)

-- what holds of each of the first elements, and of a new one put after them, holds of them all
pub each_more : {X : Type 0} (P : ℕ → X → Type 0) (none : X) (xs : List X) (count : ℕ) (new : X) → count < length xs → ((n : ℕ) → n < count → P n (get_or xs n none)) → P count new → (n : ℕ) → n < count + 1 → P n (get_or (set xs count new) n none)
each_more P none xs count new l old here n h = elim (cases_eq n count) [
  | inl q ↦ rw (q, get_or-set_same) here
  | inr ne ↦ rw get_or-set_other (old n (omega arith))
]
