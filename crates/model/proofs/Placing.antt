-- The serial order places every transaction, each after its predecessors.
use Rattle.std.proofs.Common.{◌≡◌, ℕ, zero, suc, ◌<◌, ◌≤◌, Bool, true, false, not, ◌⊎◌, ◌↔◌, List, [], ◌∷◌, length, Some, None, filter, Option, sym, refl, ap, ◌∙◌, inl, inr, arith}
use mathlib.Core.Path.{subst⁻¹}
use Rattle.std.proofs.lemmas.Bool.{cases_eq, cases_Bool, and_parts, and_from, not-true, not_from_false, both_ways}
use Rattle.std.proofs.lemmas.List.Sums.{length-filter, count_by-le-length}
use Rattle.basics.proofs.Masks.{with_members, within_members}
use Rattle.basics.specs.Sets.{has, with_member, within}
use Rattle.model.specs.Lists.{In, Before, Distinct}
use Rattle.model.specs.Order.{ready, lowest, then, placing}
use Rattle.model.proofs.Lists.{in_kept_by, kept_by_in}
use Rattle.model.proofs.Members.{◌∈◌, cases_in, lacks}

-- the numbers below k
abbrev pub below : ℕ → List ℕ
below zero = []
below (suc k) = k ∷ below k

pub in_below : (k t : ℕ) → In t (below k) → t < k
in_below zero t i = absurd i
in_below (suc k) t (inl q) = omega arith
in_below (suc k) t (inr i) = omega (arith, in_below k t i)

pub below_in : (k t : ℕ) → t < k → In t (below k)
below_in zero t h = absurd (omega arith)
below_in (suc k) t h = elim (cases_eq t k) [ inl q ↦ inl q | inr f ↦ inr (below_in k t (omega arith)) ]

pub below_distinct : (k : ℕ) → Distinct (below k)
below_distinct zero = tt
below_distinct (suc k) = (λ i. omega (arith, in_below k k i), below_distinct k)

length_below : (k : ℕ) → length (below k) ≡ k
length_below zero = refl
length_below (suc k) = ap suc (length_below k)

in_long : (xs : List ℕ) (t : ℕ) → In t xs → 0 < length xs
in_long [] t i = absurd i
in_long (x ∷ xs) t i = omega arith

-- what passes q passes p
module _ (p q : ℕ → Bool) (part : (x : ℕ) → q x ≡ true → p x ≡ true) where
  kept_fewer : (xs : List ℕ) → length (filter q xs) ≤ length (filter p xs)
  kept_fewer [] = omega arith
  kept_fewer (x ∷ xs) = let rest = kept_fewer xs in let here = part x in grind arith

  -- and one passes p alone
  kept_less : (xs : List ℕ) (t : ℕ) → In t xs → p t ≡ true → q t ≡ false → length (filter q xs) < length (filter p xs)
  kept_less [] t i a b = absurd i
  kept_less (x ∷ xs) t (inl z) a b = let fewer = kept_fewer xs in grind arith
  kept_less (x ∷ xs) t (inr i) a b = let less = kept_less xs t i a b in let here = part x in grind arith

kept_short : (p : ℕ → Bool) (xs : List ℕ) → length (filter p xs) ≤ length xs
kept_short p xs = omega (arith, length-filter p xs, count_by-le-length p xs)

-- the lowest below k that passes, or none does
pub lowest_cases : (p : ℕ → Bool) (k : ℕ)
    → ((t : ℕ) × (lowest p k ≡ Some t) × (t < k) × (p t ≡ true)) ⊎ ((lowest p k ≡ None) × ((t : ℕ) → t < k → p t ≡ true → ⊥))
lowest_cases p zero = inr (refl, λ t h e. omega arith)
lowest_cases p (suc k) = elim (lowest_cases p k) [
  | inl (t, e, l, h) ↦ inl (t, rw e refl, omega arith, h)
  | inr (e, f) ↦ elim (cases_Bool (p k)) [
    | inl h ↦ inl (k, rw (e, h) refl, omega arith, h)
    | inr h ↦ inr (rw (e, h) refl, λ t l q. elim (cases_eq t k) [ inl z ↦ both_ways (p k) h (ap p (sym z) ∙ q) | inr g ↦ f t (omega arith) q ])
  ]
]

module _ (before : ℕ → ℕ) (count : ℕ) where
  -- L places all that are not placed
  pub record Placed (placed : ℕ) (L : List ℕ) : Type 0 where
    pub fresh : (t : ℕ) → In t L → (t < count) × (t ∈ placed → ⊥)
    pub once : Distinct L
    pub all : (t : ℕ) → t < count → (t ∈ placed → ⊥) → In t L
    pub after : (u t : ℕ) → In t L → u ∈ before t → (u ∈ placed) ⊎ Before u t L

  module _ (few : count ≤ 32) (inside : (u t : ℕ) → u ∈ before t → u < count)
      (least : (x : ℕ) (xs : List ℕ) → (w : ℕ) × In w (x ∷ xs) × ((u : ℕ) → In u (x ∷ xs) → u ∈ before w → ⊥)) where
    joins : (placed t u : ℕ) → t < count → (u ∈ with_member 32 placed t) ↔ ((u ∈ placed) ⊎ (u ≡ t))
    joins placed t u l = with_members 32 placed t u (omega arith)

    unplaced : ℕ → List ℕ
    unplaced placed = filter (λ t. not (has placed t)) (below count)

    is_unplaced : (placed t : ℕ) → t < count → (t ∈ placed → ⊥) → In t (unplaced placed)
    unfolding unplaced
    is_unplaced placed t l f = kept_by_in _ (below count) t (below_in count t l) (not_from_false _ (lacks placed t f))

    unplaced_is : (placed t : ℕ) → In t (unplaced placed) → (t < count) × (t ∈ placed → ⊥)
    unfolding unplaced
    unplaced_is placed t i =
        let (j, e) = in_kept_by (λ t. not (has placed t)) (below count) t i in
        (in_below count t j, both_ways (has placed t) (not-true _ e))

    fewer : (placed t : ℕ) → t < count → (t ∈ placed → ⊥) → length (unplaced (with_member 32 placed t)) < length (unplaced placed)
    unfolding unplaced
    fewer placed t l f = kept_less (λ x. not (has placed x)) (λ x. not (has (with_member 32 placed t) x))
        (λ x e. not_from_false _ (lacks placed x (λ h. both_ways _ (not-true _ e) ((joins placed t x l).1 (inl h)))))
        (below count) t (below_in count t l) (not_from_false _ (lacks placed t f))
        (ap not ((joins placed t t l).1 (inr refl)))

    -- some unplaced one is ready, if there is any
    some_ready : (placed t : ℕ) (U : List ℕ) → unplaced placed ≡ U → In t U → (w : ℕ) × (w < count) × (ready before placed w ≡ true)
    some_ready placed t [] q i = absurd i
    some_ready placed t (x ∷ xs) q i =
        let (w, j, free) = least x xs in
        let (l, f) = unplaced_is placed w (rw q j) in (
          w,
          l,
          and_from _ _ (not_from_false _ (lacks placed w f)) ((within_members (before w) placed).1 (λ u b. elim (cases_in placed u) [
            | inl h ↦ h
            | inr g ↦ absurd (free u (rw q at (is_unplaced placed u (inside u w b) g)) b)
          ])),
        )

    placed_all : (k placed : ℕ) → length (unplaced placed) ≤ k → Placed placed (placing before count placed k)
    placed_all zero placed h = record {
      fresh = λ t i. absurd i;
      once = tt;
      all = λ t l f. absurd (omega (arith, h, in_long (unplaced placed) t (is_unplaced placed t l f)));
      after = λ u t i b. absurd i;
    }
    placed_all (suc k) placed h = elim (lowest_cases (ready before placed) count) [
      | inl (t, e, l, r) ↦
          let (new, pre) = and_parts (not (has placed t)) (within (before t) placed) r in
          let f : t ∈ placed → ⊥ = both_ways (has placed t) (not-true _ new) in
          let q = placed_all k (with_member 32 placed t) (omega (arith, h, fewer placed t l f)) in
          subst⁻¹ (λ (o : Option ℕ). Placed placed (then o (λ t. placing before count (with_member 32 placed t) k))) e (record {
            fresh = λ u. elim [
              | inl z ↦ (rw z l, rw z f)
              | inr i ↦ ((q.fresh u i).0, λ b. (q.fresh u i).1 ((joins placed t u l).1 (inl b)))
            ];
            once = (λ i. (q.fresh t i).1 ((joins placed t t l).1 (inr refl)), q.once);
            all = λ u m g. elim (cases_eq u t) [
              | inl z ↦ inl z
              | inr ne ↦ inr (q.all u m (λ b. elim ((joins placed t u l).0 b) [ inl c ↦ g c | inr z ↦ ne z ]))
            ];
            after = λ v u. elim [
              | inl z ↦ (λ b. inl ((within_members (before t) placed).0 pre v (rw z at b)))
              | inr i ↦ (λ b. elim (q.after v u i b) [
                | inl c ↦ elim ((joins placed t v l).0 c) [ inl d ↦ inl d | inr z ↦ inr (inl (z, i)) ]
                | inr c ↦ inr (inr c)
              ])
            ];
          })
      | inr (e, none) ↦ subst⁻¹ (λ (o : Option ℕ). Placed placed (then o (λ t. placing before count (with_member 32 placed t) k))) e (record {
        fresh = λ t i. absurd i;
        once = tt;
        all = λ t l f. let (w, m, r) = some_ready placed t (unplaced placed) refl (is_unplaced placed t l f) in absurd (none w m r);
        after = λ u t i b. absurd i;
      })
    ]

    pub all_placed : Placed 0 (placing before count 0 count)
    unfolding unplaced
    all_placed = placed_all count 0 (omega (arith, kept_short (λ t. not (has 0 t)) (below count), length_below count))
