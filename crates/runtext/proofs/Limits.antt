-- Numbers within their limits.
use Rattle.std.proofs.Common.{◌≡◌, ℕ, ◌+◌, ◌<◌, ◌≤◌, max, Bool, true, false, cond, not, ◌&&◌, ◌||◌, ltb, leb, List, [], ◌∷◌, map, length, Some, None, sym, refl, ap, ◌∙◌, ◌⊎◌, inl, inr, arith}
use lib.ListN.{length-map}
use Rattle.std.proofs.lemmas.Bool.{le-leb, ltb-true, and_parts, leb-true, and_left, and_right, or_cases, cases_Bool}
use Rattle.std.proofs.lemmas.Bool.Decides.{nat_tests}
use Rattle.basics.specs.declared.refusal.Refusal.TheVariants.{LimitExceeded, BadGuard, GuardsApart}
use Rattle.basics.specs.declared.node.NodeNumber.{NodeNumber}
use Rattle.basics.specs.Lists.{all_below, rising}
use Rattle.plans.specs.declared.plan.Plan.{Plan}
use Rattle.plans.specs.Building.{good_parents}
use Rattle.plans.specs.Meaning.{nodes_of}
use Rattle.rules.specs.declared.guard.Guard.{Guard}
use Rattle.rules.specs.Adding.{guard_from, in_limits, good_guard, guard_refusal}
use Rattle.rules.specs.Guards.{all_compatible}
use Rattle.rules.specs.Parents.{few as few_nodes}
use Rattle.runtext_model.specs.Accepting.{each_below, node_number, limit_unless}
use Rattle.runtext.specs.Listing.{above}

-- two limits at once
pub within_both : (a b c d : ℕ) → (leb b a || leb d c) ≡ false → (ltb a b && ltb c d) ≡ true
within_both a b c d t = grind (arith, nat_tests)

pub past_either : (a b c d : ℕ) → (leb b a || leb d c) ≡ true → (ltb a b && ltb c d) ≡ false
past_either a b c d t = grind (arith, nat_tests)

-- one of two limits is passed
pub past_one : (a b c d : ℕ) → (a < b) ⊎ ((b ≤ a) × (c < d)) → (ltb a b || ltb c d) ≡ true
past_one a b c d (inl l) = grind (arith, nat_tests)
past_one a b c d (inr l) = let r = l.1 in grind (arith, nat_tests)

-- all numbers are below what their limit does not pass
each_below_limit : (k m : ℕ) (ns : List ℕ) → (leb m k && each_below k ns) ≡ leb (above m ns) k
each_below_limit k m [] = and_true (leb m k)
  where
    and_true : (b : Bool) → (b && true) ≡ b
    and_true true = refl
    and_true false = refl
each_below_limit k m (n ∷ ns) = step (each_below k ns) ∙ each_below_limit k (max m (n + 1)) ns
  where
    step : (b : Bool) → (leb m k && (ltb n k && b)) ≡ (leb (max m (n + 1)) k && b)
    step b = grind (arith, nat_tests)

below_its_limit : (k : ℕ) (ns : List ℕ) → each_below k ns ≡ leb (above 0 ns) k
below_its_limit k ns = sym (ap (λ b. b && each_below k ns) (le-leb 0 k (omega arith))) ∙ each_below_limit k 0 ns

-- a turn list within its limits, or not
pub turns_within : (k : ℕ) (ns : List ℕ) → (ltb 4096 (length ns) || ltb k (above 0 ns)) ≡ false → limit_unless (leb (length ns) 4096 && each_below k ns) ≡ None
turns_within k ns t =
    let good : (leb (length ns) 4096 && leb (above 0 ns) k) ≡ true = grind (arith, nat_tests) in
    ap (λ b. limit_unless (leb (length ns) 4096 && b)) (below_its_limit k ns) ∙ ap limit_unless good

pub turns_past : (k : ℕ) (ns : List ℕ) → (ltb 4096 (length ns) || ltb k (above 0 ns)) ≡ true → limit_unless (leb (length ns) 4096 && each_below k ns) ≡ Some LimitExceeded
turns_past k ns t =
    let bad : (leb (length ns) 4096 && leb (above 0 ns) k) ≡ false = grind (arith, nat_tests) in
    ap (λ b. limit_unless (leb (length ns) 4096 && b)) (below_its_limit k ns) ∙ ap limit_unless bad

-- the same of nodes
all_below_each : (k : ℕ) (ns : List ℕ) → all_below k (map node_number ns) ≡ each_below k ns
all_below_each k [] = refl
all_below_each k (n ∷ ns) = ap (λ b. ltb n k && b) (all_below_each k ns)

pub all_below_its_limit : (k : ℕ) (ns : List ℕ) → all_below k (map node_number ns) ≡ leb (above 0 ns) k
all_below_its_limit k ns = all_below_each k ns ∙ below_its_limit k ns

-- nodes that rise below a limit are no more than the limit
rising_room : (k : ℕ) (x : NodeNumber) (xs : List NodeNumber) → rising (x ∷ xs) ≡ true → all_below k (x ∷ xs) ≡ true → x.0 + length (x ∷ xs) ≤ k
rising_room k x [] r b = omega (arith, ltb-true x.0 k (and_parts (ltb x.0 k) _ b).0)
rising_room k x (y ∷ ys) r b =
    let (up, more) = and_parts (ltb x.0 y.0) _ r in
    omega (arith, ltb-true x.0 y.0 up, rising_room k y ys more (and_parts (ltb x.0 k) _ b).1)

few_rising : (k : ℕ) (xs : List NodeNumber) → rising xs ≡ true → all_below k xs ≡ true → length xs ≤ k
few_rising k [] r b = omega arith
few_rising k (x ∷ xs) r b = omega (arith, rising_room k x xs r b)

-- so that a longer list does not rise
not_rising : (k : ℕ) (ns : List ℕ) → k ≤ 64 → all_below k (map node_number ns) ≡ true → 64 < length ns → rising (map node_number ns) ≡ false
not_rising k ns l b m = elim (cases_Bool (rising (map node_number ns))) [
  | inl t ↦ absurd (omega (arith, few_rising k (map node_number ns) t b, length-map ns node_number))
  | inr f ↦ f
]

pub bad_parents : (n : ℕ) (ns : List ℕ) → n < 64 → (ltb n (above 0 ns) || ltb 64 (length ns)) ≡ true → good_parents n (map node_number ns) ≡ false
bad_parents n ns l t = elim (cases_Bool (all_below n (map node_number ns))) [
  | inl b ↦
      let within : leb (above 0 ns) n ≡ true = sym (all_below_its_limit n ns) ∙ b in
      let many : 64 < length ns = ltb-true 64 (length ns) (long (above 0 ns) n (length ns) within t) in
      and_left (rising (map node_number ns)) _ (not_rising n ns (omega arith) b many)
  | inr f ↦ and_right (rising (map node_number ns)) _ (and_left (all_below n (map node_number ns)) _ f)
]
  where
    long : (a n m : ℕ) → leb a n ≡ true → (ltb n a || ltb 64 m) ≡ true → ltb 64 m ≡ true
    long a n m e t = grind (arith, nat_tests)

-- a guard that names only nodes of the plan names only numbers below 64
pub named_below : (p : Plan) (guards : List Guard) (n : ℕ) (a b : List ℕ) → in_limits (nodes_of p) guards (node_number n) (map node_number a) (map node_number b) ≡ true
    → (n < 64) × (above 0 a ≤ 64) × (above 0 b ≤ 64)
named_below p guards n a b t =
    let k = length (nodes_of p) in
    let few : k ≤ 64 = few_nodes p in
    let (_, named) = and_parts (ltb (length guards) 256) _ t in
    let (here, lists) = and_parts (ltb n k) _ named in
    let (la, lb) = and_parts (all_below k (map node_number a)) _ lists in (
      omega (arith, ltb-true n k here),
      omega (arith, leb-true (above 0 a) k (sym (all_below_its_limit k a) ∙ la)),
      omega (arith, leb-true (above 0 b) k (sym (all_below_its_limit k b) ∙ lb)),
    )

-- with more than 64 nodes in a list it does not rise
pub bad_guard : (p : Plan) (guards : List Guard) (n : NodeNumber) (a b : List ℕ) → in_limits (nodes_of p) guards n (map node_number a) (map node_number b) ≡ true
    → (ltb 64 (length a) || ltb 64 (length b)) ≡ true → guard_refusal (nodes_of p) guards n (map node_number a) (map node_number b) ≡ Some BadGuard
bad_guard p guards n a b t m =
    let nodes = nodes_of p in
    let k = length nodes in
    let (_, named) = and_parts (ltb (length guards) 256) _ t in
    let (here, lists) = and_parts (ltb n.0 k) _ named in
    let (la, lb) = and_parts (all_below k (map node_number a)) _ lists in
    let A = map node_number a in
    let B = map node_number b in
    let rest = cond (not (all_compatible (guard_from n A B) guards)) (Some GuardsApart) None in
    let bad : good_guard nodes n A B ≡ false = elim (or_cases (ltb 64 (length a)) (ltb 64 (length b)) m) [
      | inl x ↦ and_left (rising A) _ (not_rising k a (few_nodes p) la (ltb-true 64 (length a) x))
      | inr y ↦ and_right (rising A) _ (and_left (rising B) _ (not_rising k b (few_nodes p) lb (ltb-true 64 (length b) y)))
    ] in
    ap (λ x. cond (not x) (Some LimitExceeded) (cond (not (good_guard nodes n A B)) (Some BadGuard) rest)) t
    ∙ ap (λ x. cond (not x) (Some BadGuard) rest) bad
