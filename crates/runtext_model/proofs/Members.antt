-- The members of a set, listed from the lowest on.
use Rattle.std.proofs.Common.{◌≡◌, ℕ, zero, suc, ◌<◌, ◌≤◌, true, false, ◌&&◌, ◌||◌, eqb, ltb, List, [], ◌∷◌, ◌++◌, map, length, sym, refl, ap, ◌∙◌, inl, inr, arith}
use Rattle.std.specs.List.{AllByRecursion as All}
use Rattle.std.proofs.lemmas.List.{map-append, append-nil, nil_from_length}
use Rattle.std.proofs.lemmas.Bool.{cases_Bool, cases_eq, cond-true, cond-false, and_parts, and_from, or_cases, or_left, or_right, eqb-true, eq-eqb, ne_eqb, ltb-true, lt-ltb, false≢true}
use Rattle.std.proofs.lemmas.Bool.Decides.{nat_tests}
use Rattle.basics.specs.declared.node.NodeNumber.{NodeNumber}
use Rattle.basics.specs.Lists.{all_below, rising, listed, gathered}
use Rattle.basics.specs.Sets.{has}
use Rattle.basics.proofs.Listing.{set_has, listed_below, all_below_more}
use Rattle.basics.proofs.Masks.{has_ext}
use Rattle.runtext_model.specs.Accepting.{node_number}
use Rattle.runtext_model.specs.Writing.{members_below, members}

-- a node further on in a rising list is larger than the first
later_larger : (x : NodeNumber) (xs : List NodeNumber) (k : ℕ) → rising (x ∷ xs) ≡ true → listed xs k ≡ true → x.0 < k
later_larger x [] k up h = absurd (false≢true h)
later_larger x (y ∷ ys) k up h =
    let (here, rest) = and_parts (ltb x.0 y.0) (rising (y ∷ ys)) up in
    let less = ltb-true x.0 y.0 here in
    elim (or_cases (eqb k y.0) (listed ys k) h) [
      | inl e ↦ omega (arith, eqb-true k y.0 e)
      | inr l ↦ omega (arith, later_larger y ys k rest l)
    ]

-- the first of a rising list is its lowest
first_lowest : (x : NodeNumber) (xs : List NodeNumber) (k : ℕ) → rising (x ∷ xs) ≡ true → listed (x ∷ xs) k ≡ true → x.0 ≤ k
first_lowest x xs k up h = elim (or_cases (eqb k x.0) (listed xs k) h) [
  | inl e ↦ omega (arith, eqb-true k x.0 e)
  | inr l ↦ omega (arith, later_larger x xs k up l)
]

-- the rest of a rising list rises
rising_rest : (x : NodeNumber) (xs : List NodeNumber) → rising (x ∷ xs) ≡ true → rising xs ≡ true
rising_rest x [] up = refl
rising_rest x (y ∷ ys) up = (and_parts (ltb x.0 y.0) (rising (y ∷ ys)) up).1

-- the first is listed
listed_first : (x : NodeNumber) (xs : List NodeNumber) → listed (x ∷ xs) x.0 ≡ true
listed_first x xs = or_left (eqb x.0 x.0) (listed xs x.0) (eq-eqb x.0 x.0 refl)

-- the first of a rising list is not listed once more
first_once : (x : NodeNumber) (xs : List NodeNumber) → rising (x ∷ xs) ≡ true → listed xs x.0 ≡ false
first_once x xs up = elim (cases_Bool (listed xs x.0)) [
  | inl t ↦ absurd (omega (arith, later_larger x xs x.0 up t))
  | inr f ↦ f
]

-- rising lists of the same nodes are equal
same_rising : (xs ys : List NodeNumber) → rising xs ≡ true → rising ys ≡ true → ((k : ℕ) → listed xs k ≡ listed ys k) → xs ≡ ys
same_rising [] [] up vp same = refl
same_rising [] (y ∷ ys) up vp same = absurd (false≢true (same y.0 ∙ listed_first y ys))
same_rising (x ∷ xs) [] up vp same = absurd (false≢true (sym (same x.0) ∙ listed_first x xs))
same_rising (x ∷ xs) (y ∷ ys) up vp same =
    let low = first_lowest x xs y.0 up (same y.0 ∙ listed_first y ys) in
    let high = first_lowest y ys x.0 vp (sym (same x.0) ∙ listed_first x xs) in
    let first : x.0 ≡ y.0 = omega arith in
    let one = first_once x xs up in
    let two = first_once y ys vp in
    let rest = same_rising xs ys (rising_rest x xs up) (rising_rest y ys vp) (λ k. elim (cases_eq k x.0) [
      | inl q ↦ rw q (one ∙ sym two ∙ ap (listed ys) (sym first))
      | inr ne ↦
          let a : eqb k x.0 ≡ false = ne_eqb k x.0 ne in
          let b : eqb k y.0 ≡ false = ne_eqb k y.0 (λ e. ne (e ∙ sym first)) in
          ap (λ t. t || listed xs k) (sym a) ∙ same k ∙ ap (λ t. t || listed ys k) b
    ]) in
    ap (λ n. node_number n ∷ xs) first ∙ ap (λ zs. y ∷ zs) rest

-- what is listed in two lists, one after the other
listed_append : (xs ys : List NodeNumber) (k : ℕ) → listed (xs ++ ys) k ≡ (listed xs k || listed ys k)
listed_append [] ys k = refl
listed_append (x ∷ xs) ys k = let e = listed_append xs ys k in grind (arith, nat_tests)

-- one more node below the limit
below_push : (limit : ℕ) (xs : List NodeNumber) (y : NodeNumber) → all_below limit xs ≡ true → y.0 < limit → all_below limit (xs ++ (y ∷ [])) ≡ true
below_push limit [] y h l = and_from (ltb y.0 limit) true (lt-ltb y.0 limit l) refl
below_push limit (x ∷ xs) y h l =
    let (here, rest) = and_parts (ltb x.0 limit) (all_below limit xs) h in
    and_from (ltb x.0 limit) (all_below limit (xs ++ (y ∷ []))) here (below_push limit xs y rest l)

-- one larger node more
rising_push : (xs : List NodeNumber) (y : NodeNumber) → rising xs ≡ true → all_below y.0 xs ≡ true → rising (xs ++ (y ∷ [])) ≡ true
rising_push [] y up h = refl
rising_push (x ∷ []) y up h = and_from (ltb x.0 y.0) true (and_parts (ltb x.0 y.0) true h).0 refl
rising_push (x ∷ (z ∷ xs)) y up h =
    let (here, rest) = and_parts (ltb x.0 z.0) (rising (z ∷ xs)) up in
    and_from (ltb x.0 z.0) (rising (z ∷ (xs ++ (y ∷ [])))) here
    (rising_push (z ∷ xs) y rest (and_parts (ltb x.0 y.0) (all_below y.0 (z ∷ xs)) h).1)

-- the members below k as nodes
abbrev nodes_below : ℕ → ℕ → List NodeNumber
nodes_below m k = map node_number (members_below m k)

-- what is known of the members below k
record MembersSoFar (m k : ℕ) : Type 0 where
  up : rising (nodes_below m k) ≡ true
  below : all_below k (nodes_below m k) ≡ true
  same : (j : ℕ) → listed (nodes_below m k) j ≡ (has m j && ltb j k)

-- one number further
so_far : (m k : ℕ) → MembersSoFar m k
so_far m zero = record { up = refl; below = refl; same = λ j. grind (arith, nat_tests) }
so_far m (suc k) =
    let old = so_far m k in
    let more = all_below_more k (suc k) (nodes_below m k) (omega arith) old.below in
    elim (cases_Bool (has m k)) [
      | inl t ↦
          let e : nodes_below m (suc k) ≡ nodes_below m k ++ (node_number k ∷ []) =
          ap (λ xs. map node_number (members_below m k ++ xs)) (cond-true (has m k) _ _ t) ∙ map-append node_number (members_below m k) (k ∷ []) in
          record {
            up = ap rising e ∙ rising_push (nodes_below m k) (node_number k) old.up old.below;
            below = ap (all_below (suc k)) e ∙ below_push (suc k) (nodes_below m k) (node_number k) more (omega arith);
            same = λ j. ap (λ xs. listed xs j) e ∙ listed_append (nodes_below m k) (node_number k ∷ []) j ∙ ap (λ b. b || (eqb j k || false)) (old.same j) ∙ one_more j t;
          }
      | inr f ↦
          let e : nodes_below m (suc k) ≡ nodes_below m k =
          ap (λ xs. map node_number (members_below m k ++ xs)) (cond-false (has m k) _ _ f) ∙ ap (map node_number) (append-nil (members_below m k)) in
          record {
            up = ap rising e ∙ old.up;
            below = ap (all_below (suc k)) e ∙ more;
            same = λ j. ap (λ xs. listed xs j) e ∙ old.same j ∙ none_more j f;
          }
    ]
  where
    one_more : (j : ℕ) → has m k ≡ true → ((has m j && ltb j k) || (eqb j k || false)) ≡ (has m j && ltb j (suc k))
    one_more j t = elim (cases_eq j k) [
      | inl q ↦ rw (q, t) (grind (arith, nat_tests))
      | inr ne ↦ grind (arith, nat_tests)
    ]

    none_more : (j : ℕ) → has m k ≡ false → (has m j && ltb j k) ≡ (has m j && ltb j (suc k))
    none_more j f = elim (cases_eq j k) [
      | inl q ↦ rw (q, f) refl
      | inr ne ↦ grind (arith, nat_tests)
    ]

-- nodes' numbers
number_back : (ns : List ℕ) → map (λ n. n.0) (map node_number ns) ≡ ns
number_back [] = refl
number_back (n ∷ ns) = ap (λ xs. n ∷ xs) (number_back ns)

-- the members of the set of a rising list are that list
pub members_listed : (ns : List ℕ) → rising (map node_number ns) ≡ true → all_below 64 (map node_number ns) ≡ true → members (gathered 0 (map node_number ns)) ≡ ns
members_listed ns up below =
    let all = map node_number ns in
    let m = gathered 0 all in
    let s = so_far m 64 in
    let e = same_rising (nodes_below m 64) all s.up up (λ k. s.same k ∙ ap (λ b. b && ltb k 64) (set_has all k) ∙ within k) in
    sym (number_back (members m)) ∙ ap (map (λ n. n.0)) e ∙ number_back ns
  where
    within : (k : ℕ) → ((listed (map node_number ns) k && ltb k 64) && ltb k 64) ≡ listed (map node_number ns) k
    within k = elim (cases_Bool (listed (map node_number ns) k)) [
      | inl t ↦ let l = lt-ltb k 64 (listed_below 64 (map node_number ns) k below t) in rw (t, l) refl
      | inr f ↦ rw f refl
    ]

-- the members rise
pub members_up : (m : ℕ) → rising (map node_number (members m)) ≡ true
members_up m = (so_far m 64).up

-- a list lies below what each listed node lies below
below_from_listed : (limit : ℕ) (xs : List NodeNumber) → ((k : ℕ) → listed xs k ≡ true → k < limit) → all_below limit xs ≡ true
below_from_listed limit [] h = refl
below_from_listed limit (x ∷ xs) h =
    and_from (ltb x.0 limit) (all_below limit xs) (lt-ltb x.0 limit (h x.0 (listed_first x xs)))
    (below_from_listed limit xs (λ k l. h k (or_right (eqb k x.0) (listed xs k) l)))

-- the members lie below what every member of the set lies below
pub members_lie : (m limit : ℕ) → ((k : ℕ) → has m k ≡ true → k < limit) → all_below limit (map node_number (members m)) ≡ true
members_lie m limit h =
    below_from_listed limit (nodes_below m 64) (λ k l. h k (and_parts (has m k) (ltb k 64) (sym ((so_far m 64).same k) ∙ l)).0)

-- the set of the members is the set
pub members_set : (m : ℕ) → ((k : ℕ) → has m k ≡ true → k < 64) → gathered 0 (map node_number (members m)) ≡ m
members_set m low =
    has_ext (gathered 0 (nodes_below m 64)) m (λ k. set_has (nodes_below m 64) k ∙ ap (λ b. b && ltb k 64) ((so_far m 64).same k) ∙ within k)
  where
    within : (k : ℕ) → ((has m k && ltb k 64) && ltb k 64) ≡ has m k
    within k = elim (cases_Bool (has m k)) [
      | inl t ↦ let l = lt-ltb k 64 (low k t) in rw (t, l) refl
      | inr f ↦ rw f refl
    ]

-- a set that is not empty has members
pub members_some : (m : ℕ) → 0 < m → ((k : ℕ) → has m k ≡ true → k < 64) → length (map node_number (members m)) ≡ 0 → ⊥
members_some m some low none =
    let e = ap (gathered 0) (nil_from_length (map node_number (members m)) none) in
    omega (arith, e, members_set m low)

-- nodes below 64 have at most five digits
small_from_below : (ns : List ℕ) → all_below 64 (map node_number ns) ≡ true → All (λ n. n < 100000) ns
small_from_below [] h = tt
small_from_below (n ∷ ns) h =
    let (here, rest) = and_parts (ltb n 64) (all_below 64 (map node_number ns)) h in
    (omega (arith, ltb-true n 64 here), small_from_below ns rest)

-- each member has at most five digits
pub members_small : (m : ℕ) → All (λ n. n < 100000) (members m)
members_small m = small_from_below (members m) (so_far m 64).below
