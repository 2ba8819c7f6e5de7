-- The accesses of each node are those of its lockers, one after the other.
use Rattle.std.proofs.Common.{◌≡◌, ℕ, Bool, true, eqb, List, [], ◌∷◌, ◌++◌, filter, sym, refl, ap, ◌∙◌, ap₂, inl, inr, arith, append_assoc, append-nil}
use Rattle.std.specs.List.{flat_map}
use Rattle.std.proofs.lemmas.List.{flat_map_more}
use Rattle.std.proofs.lemmas.List.Elements.{filter-append}
use Rattle.std.proofs.lemmas.Bool.{cases_eq, eq-eqb, ne_eqb, eqb-true}
use Rattle.model.specs.Lists.{In, Before, Distinct}
use Rattle.model.specs.History.{Access}
use Rattle.model.specs.Replay.{accesses_by, serial}
use Rattle.model.proofs.Lists.{in_at, dec_in, distinct_last}

-- those at the node n
abbrev pub at_node : ℕ → List Access → List Access
at_node n = filter (λ a. eqb a.node n)

-- the accesses in series, as a chain
one_joined : (L : List ℕ) (A : List Access) → serial L A ≡ flat_map (λ t. accesses_by t A) L
one_joined [] A = refl
one_joined (t ∷ L) A = ap (λ l. accesses_by t A ++ l) (one_joined L A)

module _ {A : Type 0} where
  kept_swap : (p q : A → Bool) (xs : List A) → filter p (filter q xs) ≡ filter q (filter p xs)
  kept_swap p q [] = refl
  kept_swap p q (x ∷ xs) = let rest = kept_swap p q xs in grind arith

  -- no element passes both
  kept_none : (p q : A → Bool) → ((x : A) → p x ≡ true → q x ≡ true → ⊥) → (xs : List A) → filter p (filter q xs) ≡ []
  kept_none p q f [] = refl
  kept_none p q f (x ∷ xs) = let rest = kept_none p q f xs in let here = f x in grind arith

  kept_joined : (p : A → Bool) (f : ℕ → List A) (L : List ℕ) → filter p (flat_map f L) ≡ flat_map (λ t. filter p (f t)) L
  kept_joined p f [] = refl
  kept_joined p f (t ∷ ts) = filter-append p (f t) (flat_map f ts) ∙ ap (λ l. filter p (f t) ++ l) (kept_joined p f ts)

  joined_same : (f g : ℕ → List A) (L : List ℕ) → ((t : ℕ) → In t L → f t ≡ g t) → flat_map f L ≡ flat_map g L
  joined_same f g [] h = refl
  joined_same f g (t ∷ ts) h = ap₂ ◌++◌ (h t (inl refl)) (joined_same f g ts (λ u i. h u (inr i)))

  -- what is joined over L is joined over D, where D has all of L that counts, in L's order
  joined_over : (f : ℕ → List A) (L D : List ℕ) → Distinct L → Distinct D
      → ((u : ℕ) → In u D → In u L) → ((u w : ℕ) → Before w u L → Before u w D → ⊥)
      → ((u : ℕ) → In u L → (In u D → ⊥) → f u ≡ []) → flat_map f L ≡ flat_map f D
  joined_over f [] [] a d sub agrees none = refl
  joined_over f [] (y ∷ ys) a d sub agrees none = absurd (sub y (inl refl))
  joined_over f (x ∷ xs) [] a d sub agrees none =
      rw (none x (inl refl) (λ i. i)) (joined_over f xs [] a.1 tt (λ u i. absurd i) (λ u w b c. c) (λ u i j. none u (inr i) j))
  joined_over f (x ∷ xs) (y ∷ ys) a d sub agrees none = elim (cases_eq x y) [
    | inl q ↦ ap₂ ◌++◌ (ap f q) (joined_over f xs ys a.1 d.1
        (λ u i. elim (sub u (inr i)) [ inl z ↦ absurd (d.0 (in_at ys y u (sym (z ∙ q)) i)) | inr j ↦ j ])
        (λ u w b c. agrees u w (inr b) (inr c))
        (λ u i j. none u (inr i) (elim [ inl z ↦ a.0 (in_at xs x u (q ∙ sym z) i) | inr k ↦ j k ])))
    | inr ne ↦ elim (dec_in x ys) [
      | inl i ↦ absurd (elim (sub y (inl refl)) [ inl z ↦ ne (sym z) | inr j ↦ agrees y x (inl (refl, j)) (inl (refl, i)) ])
      | inr out ↦ skip ne out (joined_over f xs (y ∷ ys) a.1 d)
    ]
  ]
    where
      gone : (x ≡ y → ⊥) → (In x ys → ⊥) → In x (y ∷ ys) → ⊥
      gone ne out (inl z) = ne z
      gone ne out (inr j) = out j

      skip : (x ≡ y → ⊥) → (In x ys → ⊥)
          → (((u : ℕ) → In u (y ∷ ys) → In u xs) → ((u w : ℕ) → Before w u xs → Before u w (y ∷ ys) → ⊥)
          → ((u : ℕ) → In u xs → (In u (y ∷ ys) → ⊥) → f u ≡ []) → flat_map f xs ≡ flat_map f (y ∷ ys))
          → flat_map f (x ∷ xs) ≡ flat_map f (y ∷ ys)
      skip ne out rest = rw (none x (inl refl) (gone ne out)) (rest
          (λ u i. elim (sub u i) [ inl z ↦ absurd (gone ne out (in_at (y ∷ ys) x u (sym z) i)) | inr j ↦ j ])
          (λ u w b c. agrees u w (inr b) c)
          (λ u i j. none u (inr i) j))

-- each node's accesses are those of its lockers, one after the other
abbrev pub Traced : (ℕ → List ℕ) → List Access → Type 0
Traced C trace = (n : ℕ) → at_node n trace ≡ flat_map (λ t. accesses_by t (at_node n trace)) (C n)

by_none : (F : List Access) (D : List ℕ) (u : ℕ) → (In u D → ⊥) → accesses_by u (flat_map (λ t. accesses_by t F) D) ≡ []
by_none F [] u f = refl
by_none F (t ∷ ts) u f =
    filter-append (λ a. eqb a.by u) (accesses_by t F) (flat_map (λ t. accesses_by t F) ts)
    ∙ ap₂ ◌++◌ (kept_none (λ a. eqb a.by u) (λ a. eqb a.by t) (λ a p q. f (inl (sym (eqb-true _ _ p) ∙ eqb-true _ _ q))) F) (by_none F ts u (λ i. f (inr i)))

module _ (C : ℕ → List ℕ) (trace : List Access) (traced : Traced C trace) where
  absent : (n u : ℕ) → (In u (C n) → ⊥) → accesses_by u (at_node n trace) ≡ []
  absent n u f = ap (accesses_by u) (traced n) ∙ by_none (at_node n trace) (C n) u f

  -- in series, in an order that agrees with each node's, the accesses of each node are the same
  pub same_by_one : (L : List ℕ) (n : ℕ) → Distinct L → Distinct (C n) → ((u : ℕ) → In u (C n) → In u L)
      → ((u w : ℕ) → Before w u L → Before u w (C n) → ⊥) → at_node n (serial L trace) ≡ at_node n trace
  same_by_one L n a c sub agrees =
      ap (at_node n) (one_joined L trace)
      ∙ kept_joined (λ x. eqb x.node n) (λ t. accesses_by t trace) L
      ∙ joined_same (λ t. at_node n (accesses_by t trace)) (λ t. accesses_by t (at_node n trace)) L (λ t i. kept_swap (λ x. eqb x.node n) (λ x. eqb x.by t) trace)
      ∙ joined_over (λ t. accesses_by t (at_node n trace)) L (C n) a c sub agrees (λ u i f. absent n u f)
      ∙ sym (traced n)

node_here : (a : Access) (m : ℕ) → m ≡ a.node → (xs : List Access) → at_node m (xs ++ (a ∷ [])) ≡ at_node m xs ++ (a ∷ [])
node_here a m q xs = filter-append (λ x. eqb x.node m) xs (a ∷ []) ∙ rw (eq-eqb a.node m (sym q)) refl

node_other : (a : Access) (m : ℕ) → (m ≡ a.node → ⊥) → (xs : List Access) → at_node m (xs ++ (a ∷ [])) ≡ at_node m xs
node_other a m f xs = filter-append (λ x. eqb x.node m) xs (a ∷ []) ∙ rw (ne_eqb a.node m (λ q. f (sym q))) (append-nil _)

by_here : (a : Access) (xs : List Access) → accesses_by a.by (xs ++ (a ∷ [])) ≡ accesses_by a.by xs ++ (a ∷ [])
by_here a xs = filter-append (λ x. eqb x.by a.by) xs (a ∷ []) ∙ rw (eq-eqb a.by a.by refl) refl

by_other : (a : Access) (t : ℕ) → (t ≡ a.by → ⊥) → (xs : List Access) → accesses_by t (xs ++ (a ∷ [])) ≡ accesses_by t xs
by_other a t f xs = filter-append (λ x. eqb x.by t) xs (a ∷ []) ∙ rw (ne_eqb a.by t (λ q. f (sym q))) (append-nil _)

joined_access : (a : Access) (F : List Access) (xs : List ℕ) → (In a.by xs → ⊥)
    → flat_map (λ t. accesses_by t (F ++ (a ∷ []))) (xs ++ (a.by ∷ [])) ≡ flat_map (λ t. accesses_by t F) (xs ++ (a.by ∷ [])) ++ (a ∷ [])
joined_access a F xs f =
    sym (flat_map_more (λ t. accesses_by t (F ++ (a ∷ []))) [] xs a.by)
    ∙ ap₂ ◌++◌ (joined_same _ (λ t. accesses_by t F) xs (λ t i. by_other a t (λ q. f (in_at xs a.by t (sym q) i)) F)) (by_here a F)
    ∙ sym (append_assoc (flat_map (λ t. accesses_by t F) xs) (accesses_by a.by F) (a ∷ []))
    ∙ ap (λ l. l ++ (a ∷ [])) (flat_map_more (λ t. accesses_by t F) [] xs a.by)

-- the last locker makes an access
pub traced_access : (C : ℕ → List ℕ) (trace : List Access) → Traced C trace → (a : Access) (xs : List ℕ)
    → C a.node ≡ xs ++ (a.by ∷ []) → Distinct (C a.node) → Traced C (trace ++ (a ∷ []))
traced_access C trace traced a xs last c m = elim (cases_eq m a.node) [
  | inl q ↦
      let F = at_node m trace in
      let e : C m ≡ xs ++ (a.by ∷ []) = ap C q ∙ last in
      let old : F ≡ flat_map (λ t. accesses_by t F) (xs ++ (a.by ∷ [])) = traced m ∙ ap (flat_map (λ t. accesses_by t F)) e in
      rw (node_here a m q trace, e) (ap (λ l. l ++ (a ∷ [])) old ∙ sym (joined_access a F xs (distinct_last xs a.by (rw last at c))))
  | inr f ↦ rw (node_other a m f trace) (traced m)
]

-- a new locker has made none
pub traced_grant : (C C' : ℕ → List ℕ) (trace : List Access) → Traced C trace → (n t : ℕ)
    → C' n ≡ C n ++ (t ∷ []) → ((m : ℕ) → (m ≡ n → ⊥) → C' m ≡ C m) → (In t (C n) → ⊥) → Traced C' trace
traced_grant C C' trace traced n t here elsewhere new m = elim (cases_eq m n) [
  | inl q ↦
      let f : ℕ → List Access = λ t. accesses_by t (at_node n trace) in
      rw (q, here) (traced n ∙ sym (append-nil _) ∙ ap (λ l. flat_map f (C n) ++ l) (sym (absent C trace traced n t new)) ∙ flat_map_more f [] (C n) t)
  | inr f ↦ rw (elsewhere m f) (traced m)
]
