-- Children, chains of parents, and the two ways to find the nodes below a node.
use Rattle.std.proofs.Common.{◌≡◌, ℕ, zero, suc, ◌+◌, ◌<◌, ◌≤◌, Bool, true, false, ◌&&◌, ◌||◌, eqb, ltb, ◌↔◌, List, length, sym, ap, ◌∙◌, subst, inl, inr, arith}
use Rattle.std.proofs.lemmas.List.{get_or_past}
use Rattle.std.proofs.lemmas.Bool.{cases_Bool, cases_eq, cases_lt, and_parts, and_from, eqb-true, eq-eqb, lt-ltb, or_cases, or_left, or_right, both_ways, cond-true, cond-false}
use Rattle.std.proofs.lemmas.Bool.Decides.{nat_tests, same_from_decides}
use Rattle.basics.specs.Sets.{has, with_member, meets}
use Rattle.basics.proofs.Masks.{has_none, has_with, has_ext, meets_members}
use Rattle.graph.specs.Walks.{Walk, Reached}
use Rattle.plans.specs.declared.plan.Node.{Node}
use Rattle.plans.specs.Descent.{Chain, Below, below_next, below_among, below_set}
use Rattle.plans.specs.Nodes.{no_node, node_at, is_parent}

-- a loop over k that collects the numbers with a property q
pub found_more : (q : ℕ → Bool) (k : ℕ) (old new : ℕ) → k < 64 → ((j : ℕ) → has old j ≡ (ltb j k && q j)) → q k ≡ true → ((j : ℕ) → has new j ≡ (has old j || (eqb j k && ltb j 64))) → (j : ℕ) → has new j ≡ (ltb j (k + 1) && q j)
found_more q k old new l inv t with-k j = elim (cases_eq j k) [
  | inl e ↦ let a = with-k j in let b : q j ≡ true = ap q e ∙ t in grind (arith, nat_tests)
  | inr ne ↦ let a = with-k j in let b = inv j in grind (arith, nat_tests)
]

pub found_same : (q : ℕ → Bool) (k : ℕ) (old : ℕ) → ((j : ℕ) → has old j ≡ (ltb j k && q j)) → q k ≡ false → (j : ℕ) → has old j ≡ (ltb j (k + 1) && q j)
found_same q k old inv f j = elim (cases_eq j k) [
  | inl e ↦ let a = inv j in let b : q j ≡ false = ap q e ∙ f in grind (arith, nat_tests)
  | inr ne ↦ let b = inv j in grind (arith, nat_tests)
]

-- a number at or past the count is no child
pub no_child : (nodes : List Node) (p k : ℕ) → length nodes ≤ k → is_parent nodes p k ≡ false
no_child nodes p k h = ap (λ x. has x.parents.mask p) (get_or_past nodes k no_node h) ∙ has_none p

-- what holds below the count holds everywhere
pub found_all : (nodes : List Node) (p k : ℕ) → (ltb k (length nodes) && is_parent nodes p k) ≡ is_parent nodes p k
found_all nodes p k = elim (cases_lt k (length nodes)) [
  | inl l ↦ ap (λ b. b && is_parent nodes p k) (lt-ltb k (length nodes) l)
  | inr g ↦ let z = no_child nodes p k g in grind (arith, nat_tests)
]

-- the start of the search
start_has : (n k : ℕ) → n < 64 → (has (with_member 64 0 n) k ≡ true) ↔ (k ≡ n)
start_has n k l = (
  λ h. let a = has_with 64 0 n k in let z = has_none k in grind (arith, nat_tests),
  λ q. let a = has_with 64 0 n k in let z = has_none k in grind (arith, nat_tests),
)

chain_from_walk : (nodes : List Node) (n : ℕ) → n < 64 → (l k : ℕ) → Walk (is_parent nodes) (with_member 64 0 n) l k → Chain nodes n l k
chain_from_walk nodes n h zero k w = (start_has n k h).0 w
chain_from_walk nodes n h (suc l) k (p, (w, e)) = (p, (chain_from_walk nodes n h l p w, e))

walk_from_chain : (nodes : List Node) (n : ℕ) → n < 64 → (l k : ℕ) → Chain nodes n l k → Walk (is_parent nodes) (with_member 64 0 n) l k
walk_from_chain nodes n h zero k w = (start_has n k h).1 w
walk_from_chain nodes n h (suc l) k (p, (w, e)) = (p, (walk_from_chain nodes n h l p w, e))

-- what the search finds is what lies below
pub reached_below : (nodes : List Node) (n r : ℕ) → n < length nodes → length nodes ≤ 64 → Reached (is_parent nodes) (with_member 64 0 n) r → (k : ℕ) → (has r k ≡ true) ↔ Below nodes n k
reached_below nodes n r l few found k =
    let room : n < 64 = omega arith in (
      λ h. let (m, w) = (found k).0 h in (l, (m, chain_from_walk nodes n room m k w)),
      λ (_, (m, c)). (found k).1 (m, walk_from_chain nodes n room m k c),
    )

-- parents are lower than their child
abbrev pub Lower : List Node → Type 0
Lower nodes = (k p : ℕ) → is_parent nodes p k ≡ true → p < k

-- the nodes that a pass over the first m nodes has to find
abbrev Among : List Node → ℕ → ℕ → ℕ → Type 0
Among nodes n m k = (k < m) × ((l : ℕ) × Chain nodes n l k)

abbrev Found : List Node → ℕ → ℕ → ℕ → Type 0
Found nodes n m found = (k : ℕ) → (has found k ≡ true) ↔ Among nodes n m k

-- the test at node m: whether m is n or has a parent that was found
joins : (nodes : List Node) (n m found : ℕ) → Lower nodes → Found nodes n m found → ((eqb m n || meets (node_at nodes m).parents.mask found) ≡ true) ↔ ((l : ℕ) × Chain nodes n l m)
joins nodes n m found lower had = (
  λ t. elim (or_cases (eqb m n) _ t) [
    | inl e ↦ (0, eqb-true m n e)
    | inr e ↦
        let (p, up, in-found) = (meets_members (node_at nodes m).parents.mask found).0 e in
        let (_, (l, c)) = (had p).0 in-found in
        (suc l, (p, (c, up)))
  ],
  λ (l, c). by_chain l c,
)
  where
    by_chain : (l : ℕ) → Chain nodes n l m → (eqb m n || meets (node_at nodes m).parents.mask found) ≡ true
    by_chain zero q = or_left (eqb m n) _ (eq-eqb m n q)
    by_chain (suc l) (p, (c, up)) =
        or_right (eqb m n) _ ((meets_members (node_at nodes m).parents.mask found).1 (p, up, (had p).1 (lower m p up, (l, c))))

found_next : (nodes : List Node) (n m found : ℕ) → m < 64 → Lower nodes → Found nodes n m found → Found nodes n (suc m) (below_next nodes n m found)
found_next nodes n m found room lower had k = elim (cases_Bool test) [
  | inl t ↦
      let (l, c) = (joins nodes n m found lower had).0 t in
      let grown : below_next nodes n m found ≡ with_member 64 found m = cond-true test _ _ t in
      let members : has (below_next nodes n m found) k ≡ (has found k || (eqb k m && ltb k 64)) = ap (λ s. has s k) grown ∙ has_with 64 found m k in (
        λ h. elim (or_cases (has found k) _ (sym members ∙ h)) [
          | inl old ↦ let (below, w) = (had k).0 old in (omega arith, w)
          | inr new ↦
              let q : k ≡ m = eqb-true k m (and_parts (eqb k m) _ new).0 in
              (omega arith, (l, subst (Chain nodes n l) (sym q) c))
        ],
        λ (below, w). members ∙ elim (cases_eq k m) [
          | inl q ↦ or_right (has found k) _ (and_from _ _ (eq-eqb k m q) (lt-ltb k 64 (omega arith)))
          | inr ne ↦ or_left (has found k) _ ((had k).1 (omega arith, w))
        ],
      )
  | inr f ↦
      let same : has (below_next nodes n m found) k ≡ has found k = ap (λ s. has s k) (cond-false test _ _ f) in (
        λ h. let (below, w) = (had k).0 (sym same ∙ h) in (omega arith, w),
        λ (below, w). same ∙ elim (cases_eq k m) [
          | inl q ↦ absurd (both_ways test f ((joins nodes n m found lower had).1 (w.0, subst (Chain nodes n w.0) q w.1)))
          | inr ne ↦ (had k).1 (omega arith, w)
        ],
      )
]
  where
    test : Bool
    test = eqb m n || meets (node_at nodes m).parents.mask found

-- one pass upward finds n and its descendants
below_members : (nodes : List Node) (n : ℕ) → Lower nodes → (m : ℕ) → m ≤ 64 → Found nodes n m (below_among nodes n m)
below_members nodes n lower zero few k =
    (λ h. absurd (both_ways (has 0 k) (has_none k) h), λ (below, w). absurd (omega arith))
below_members nodes n lower (suc m) few k =
    found_next nodes n m (below_among nodes n m) (omega arith) lower (below_members nodes n lower m (omega arith)) k

chain_in : (nodes : List Node) (n l k : ℕ) → n < length nodes → Chain nodes n l k → k < length nodes
chain_in nodes n zero k h q = omega arith
chain_in nodes n (suc l) k h (p, (c, up)) = elim (cases_lt k (length nodes)) [
  | inl b ↦ b
  | inr past ↦ absurd (both_ways (is_parent nodes p k) (no_child nodes p k past) up)
]

-- a set whose members are the nodes below n is the one that the pass finds
pub same_below : (nodes : List Node) (n r : ℕ) → Lower nodes → n < length nodes → length nodes ≤ 64 → ((k : ℕ) → (has r k ≡ true) ↔ Below nodes n k) → r ≡ below_set nodes n
same_below nodes n r lower h few found =
    has_ext r (below_among nodes n (length nodes)) same ∙ sym (cond-true (ltb n (length nodes)) _ 0 (lt-ltb n (length nodes) h))
  where
    pass : Found nodes n (length nodes) (below_among nodes n (length nodes))
    pass = below_members nodes n lower (length nodes) few

    same : (k : ℕ) → has r k ≡ has (below_among nodes n (length nodes)) k
    same k = same_from_decides (has r k) (has (below_among nodes n (length nodes)) k) (found k) (
      λ b. let (_, w) = (pass k).0 b in (h, w),
      λ (_, w). (pass k).1 (chain_in nodes n w.0 k h w.1, w),
    )
