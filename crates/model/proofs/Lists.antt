-- Laws of In, Before and Distinct.
use Rattle.std.proofs.Common.{◌≡◌, ℕ, Bool, true, ◌⊎◌, List, [], ◌∷◌, ◌++◌, filter, sym, refl, ap, ◌∙◌, inl, inr}
use native.Mathlib.Decide.{ℕ_discrete}
use Rattle.std.proofs.lemmas.Bool.{cases_Bool}
use Rattle.model.specs.Lists.{In, Before, Distinct}

pub before_left : (l : List ℕ) (u t : ℕ) → Before u t l → In u l
before_left [] u t b = b
before_left (x ∷ xs) u t (inl b) = inl b.0
before_left (x ∷ xs) u t (inr b) = inr (before_left xs u t b)

pub before_right : (l : List ℕ) (u t : ℕ) → Before u t l → In t l
before_right [] u t b = b
before_right (x ∷ xs) u t (inl b) = inr b.1
before_right (x ∷ xs) u t (inr b) = inr (before_right xs u t b)

pub in_at : (l : List ℕ) (u t : ℕ) → u ≡ t → In t l → In u l
in_at l u t e i = rw e i

pub before_trans : (l : List ℕ) (u t w : ℕ) → Distinct l → Before u t l → Before t w l → Before u w l
before_trans [] u t w a b c = b
before_trans (x ∷ xs) u t w a (inl b) (inl c) = inl (b.0, c.1)
before_trans (x ∷ xs) u t w a (inl b) (inr c) = inl (b.0, before_right xs t w c)
before_trans (x ∷ xs) u t w a (inr b) (inl c) = absurd (a.0 (in_at xs x t (sym c.0) (before_right xs u t b)))
before_trans (x ∷ xs) u t w a (inr b) (inr c) = inr (before_trans xs u t w a.1 b c)

pub before_irrefl : (l : List ℕ) (u : ℕ) → Distinct l → Before u u l → ⊥
before_irrefl [] u a b = b
before_irrefl (x ∷ xs) u a (inl b) = a.0 (in_at xs x u (sym b.0) b.1)
before_irrefl (x ∷ xs) u a (inr b) = before_irrefl xs u a.1 b

pub dec_in : (t : ℕ) (l : List ℕ) → In t l ⊎ (In t l → ⊥)
dec_in t [] = inr (λ i. i)
dec_in t (x ∷ xs) = step (ℕ_discrete t x) (dec_in t xs)
  where
    step : Dec (t ≡ x) → In t xs ⊎ (In t xs → ⊥) → In t (x ∷ xs) ⊎ (In t (x ∷ xs) → ⊥)
    step (yes e) d = inl (inl e)
    step (no n) (inl i) = inl (inr i)
    step (no n) (inr k) = inr (elim [ inl e ↦ n e | inr i ↦ k i ])

pub dec_before : (u t : ℕ) (l : List ℕ) → Before u t l ⊎ (Before u t l → ⊥)
dec_before u t [] = inr (λ i. i)
dec_before u t (x ∷ xs) = step (ℕ_discrete u x) (dec_in t xs) (dec_before u t xs)
  where
    step : Dec (u ≡ x) → In t xs ⊎ (In t xs → ⊥) → Before u t xs ⊎ (Before u t xs → ⊥) → Before u t (x ∷ xs) ⊎ (Before u t (x ∷ xs) → ⊥)
    step d i (inl b) = inl (inr b)
    step (yes e) (inl i) (inr k) = inl (inl (e, i))
    step (yes e) (inr j) (inr k) = inr (elim [ inl p ↦ j p.1 | inr b ↦ k b ])
    step (no n) i (inr k) = inr (elim [ inl p ↦ n p.0 | inr b ↦ k b ])

pub in_left : (xs ys : List ℕ) (u : ℕ) → In u xs → In u (xs ++ ys)
in_left [] ys u i = absurd i
in_left (x ∷ xs) ys u (inl q) = inl q
in_left (x ∷ xs) ys u (inr i) = inr (in_left xs ys u i)

pub in_last : (xs : List ℕ) (t : ℕ) → In t (xs ++ (t ∷ []))
in_last [] t = inl refl
in_last (x ∷ xs) t = inr (in_last xs t)

pub in_push : (xs : List ℕ) (t u : ℕ) → In u (xs ++ (t ∷ [])) → In u xs ⊎ (u ≡ t)
in_push [] t u (inl q) = inr q
in_push [] t u (inr i) = inl i
in_push (x ∷ xs) t u (inl q) = inl (inl q)
in_push (x ∷ xs) t u (inr i) = elim (in_push xs t u i) [ inl j ↦ inl (inr j) | inr q ↦ inr q ]

pub before_keep : (xs ys : List ℕ) (u v : ℕ) → Before u v xs → Before u v (xs ++ ys)
before_keep [] ys u v b = absurd b
before_keep (x ∷ xs) ys u v (inl b) = inl (b.0, in_left xs ys v b.1)
before_keep (x ∷ xs) ys u v (inr b) = inr (before_keep xs ys u v b)

pub before_last : (xs : List ℕ) (t u : ℕ) → In u xs → Before u t (xs ++ (t ∷ []))
before_last [] t u i = absurd i
before_last (x ∷ xs) t u (inl q) = inl (q, in_last xs t)
before_last (x ∷ xs) t u (inr i) = inr (before_last xs t u i)

pub before_push : (xs : List ℕ) (t u v : ℕ) → Before u v (xs ++ (t ∷ [])) → Before u v xs ⊎ (In u xs × (v ≡ t))
before_push [] t u v (inl b) = absurd b.1
before_push [] t u v (inr b) = absurd b
before_push (x ∷ xs) t u v (inl b) = elim (in_push xs t v b.1) [ inl i ↦ inl (inl (b.0, i)) | inr q ↦ inr (inl b.0, q) ]
before_push (x ∷ xs) t u v (inr b) = elim (before_push xs t u v b) [ inl c ↦ inl (inr c) | inr c ↦ inr (inr c.0, c.1) ]

pub distinct_push : (xs : List ℕ) (t : ℕ) → Distinct xs → (In t xs → ⊥) → Distinct (xs ++ (t ∷ []))
distinct_push [] t a f = (λ i. i, tt)
distinct_push (x ∷ xs) t a f =
    (λ i. elim (in_push xs t x i) [ inl j ↦ a.0 j | inr q ↦ f (inl (sym q)) ], distinct_push xs t a.1 (λ i. f (inr i)))

pub distinct_last : (xs : List ℕ) (t : ℕ) → Distinct (xs ++ (t ∷ [])) → In t xs → ⊥
distinct_last [] t a i = i
distinct_last (x ∷ xs) t a (inl q) = a.0 (in_at _ x t (sym q) (in_last xs t))
distinct_last (x ∷ xs) t a (inr i) = distinct_last xs t a.1 i

pub in_right : (xs ys : List ℕ) (u : ℕ) → In u ys → In u (xs ++ ys)
in_right [] ys u i = i
in_right (x ∷ xs) ys u i = inr (in_right xs ys u i)

pub in_append : (xs ys : List ℕ) (u : ℕ) → In u (xs ++ ys) → In u xs ⊎ In u ys
in_append [] ys u i = inr i
in_append (x ∷ xs) ys u (inl q) = inl (inl q)
in_append (x ∷ xs) ys u (inr i) = elim (in_append xs ys u i) [ inl j ↦ inl (inr j) | inr j ↦ inr j ]

-- of two in a row of two lists, both are in the first, or the later is in the second
pub before_append : (xs ys : List ℕ) (u v : ℕ) → Before u v (xs ++ ys) → Before u v xs ⊎ In v ys
before_append [] ys u v b = inr (before_right ys u v b)
before_append (x ∷ xs) ys u v (inl b) = elim (in_append xs ys v b.1) [ inl i ↦ inl (inl (b.0, i)) | inr i ↦ inr i ]
before_append (x ∷ xs) ys u v (inr b) = elim (before_append xs ys u v b) [ inl c ↦ inl (inr c) | inr i ↦ inr i ]

pub before_across : (xs ys : List ℕ) (u v : ℕ) → In u xs → In v ys → Before u v (xs ++ ys)
before_across [] ys u v i j = absurd i
before_across (x ∷ xs) ys u v (inl q) j = inl (q, in_right xs ys v j)
before_across (x ∷ xs) ys u v (inr i) j = inr (before_across xs ys u v i j)

pub distinct_append : (xs ys : List ℕ) → Distinct xs → Distinct ys → ((u : ℕ) → In u xs → In u ys → ⊥) → Distinct (xs ++ ys)
distinct_append [] ys a b f = b
distinct_append (x ∷ xs) ys a b f =
    (λ i. elim (in_append xs ys x i) [ inl j ↦ a.0 j | inr j ↦ f x (inl refl) j ], distinct_append xs ys a.1 b (λ u i. f u (inr i)))

pub in_kept_by : (p : ℕ → Bool) (xs : List ℕ) (u : ℕ) → In u (filter p xs) → In u xs × (p u ≡ true)
in_kept_by p [] u i = absurd i
in_kept_by p (x ∷ xs) u i = elim (cases_Bool (p x)) [
  | inl e ↦
      let j : In u (x ∷ filter p xs) = rw e at i in
      elim j [ inl q ↦ (inl q, ap p q ∙ e) | inr l ↦ (inr (in_kept_by p xs u l).0, (in_kept_by p xs u l).1) ]
  | inr e ↦
      let j : In u (filter p xs) = rw e at i in
      (inr (in_kept_by p xs u j).0, (in_kept_by p xs u j).1)
]

pub kept_by_in : (p : ℕ → Bool) (xs : List ℕ) (u : ℕ) → In u xs → p u ≡ true → In u (filter p xs)
kept_by_in p [] u i e = i
kept_by_in p (x ∷ xs) u (inl q) e = rw (ap p (sym q) ∙ e) (inl q)
kept_by_in p (x ∷ xs) u (inr i) e = elim (cases_Bool (p x)) [ inl d ↦ rw d (inr (kept_by_in p xs u i e)) | inr d ↦ rw d (kept_by_in p xs u i e) ]

pub distinct_kept_by : (p : ℕ → Bool) (xs : List ℕ) → Distinct xs → Distinct (filter p xs)
distinct_kept_by p [] a = a
distinct_kept_by p (x ∷ xs) a = elim (cases_Bool (p x)) [
  | inl d ↦ rw d (λ i. a.0 (in_kept_by p xs x i).0, distinct_kept_by p xs a.1)
  | inr d ↦ rw d (distinct_kept_by p xs a.1)
]
