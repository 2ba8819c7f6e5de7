-- The heart of the serial order, over any lists of transactions, one list to a node, and any first node of each:
-- every non-empty set of transactions has a member that no other precedes at any node.
use Rattle.std.proofs.Common.{◌≡◌, ℕ, zero, suc, ◌<◌, ◌≤◌, max, ◌⊎◌, List, [], ◌∷◌, length, refl, ap, inl, inr, arith}
use Rattle.std.proofs.lemmas.Bool.{cases_lt}
use Rattle.model.specs.Lists.{In, Before, Distinct}
use Rattle.model.proofs.Lists.{before_left, before_right, before_trans, before_irrefl, dec_before}

-- C n lists transactions in the order of node n, and e t is the first node of t: none stands twice, none stands below
-- its first node, and who precedes another at a node that is the first of neither precedes it at a lower node too
pub record Descending (C : ℕ → List ℕ) (e : ℕ → ℕ) : Type 0 where
  pub distinct : (n : ℕ) → Distinct (C n)
  pub entered : (n t : ℕ) → In t (C n) → e t ≤ n
  pub lower : (n u t : ℕ) → Before u t (C n) → (n ≡ e u) ⊎ ((n ≡ e t) ⊎ ((p : ℕ) × (p < n) × Before u t (C p)))

-- of x and ys the one with the largest e, and the others
record Largest (e : ℕ → ℕ) (x : ℕ) (ys : List ℕ) : Type 0 where
  top : ℕ
  rest : List ℕ
  long : length rest ≤ length ys
  high : (u : ℕ) → In u (x ∷ ys) → e u ≤ e top
  out : (u : ℕ) → In u (x ∷ ys) → (u ≡ top) ⊎ In u rest
  its : In top (x ∷ ys)
  back : (u : ℕ) → In u rest → In u (x ∷ ys)

largest : (e : ℕ → ℕ) (x : ℕ) (ys : List ℕ) → Largest e x ys
largest e x [] = record {
  top = x;
  rest = [];
  long = omega arith;
  high = λ u. elim [ inl q ↦ omega (arith, ap e q) | inr i ↦ absurd i ];
  out = λ u i. i;
  its = inl refl;
  back = λ u i. absurd i;
}
largest e x (y ∷ ys) = step (largest e y ys) (cases_lt (e x) (e (largest e y ys).top))
  where
    step : (l : Largest e y ys) → (e x < e l.top) ⊎ (e l.top ≤ e x) → Largest e x (y ∷ ys)
    step l (inl h) = record {
      top = l.top;
      rest = x ∷ l.rest;
      long = omega (arith, l.long);
      high = λ u. elim [ inl q ↦ omega (arith, ap e q) | inr i ↦ l.high u i ];
      out = λ u. elim [ inl q ↦ inr (inl q) | inr i ↦ elim (l.out u i) [ inl q ↦ inl q | inr j ↦ inr (inr j) ] ];
      its = inr l.its;
      back = λ u. elim [ inl q ↦ inl q | inr i ↦ inr (l.back u i) ];
    }
    step l (inr h) = record {
      top = x;
      rest = y ∷ ys;
      long = omega arith;
      high = λ u. elim [ inl q ↦ omega (arith, ap e q) | inr i ↦ omega (arith, l.high u i) ];
      out = λ u i. i;
      its = inl refl;
      back = λ u i. inr i;
    }

-- a member of U that no member of U precedes at any node
abbrev pub Minimal : (ℕ → List ℕ) → List ℕ → Type 0
Minimal C U = (w : ℕ) × In w U × ((u n : ℕ) → In u U → Before u w (C n) → ⊥)

module _ (C : ℕ → List ℕ) (e : ℕ → ℕ) (s : Descending C e) where
  at_node : (u t m n : ℕ) → m ≡ n → Before u t (C m) → Before u t (C n)
  at_node u t m n q b = rw (← q) b

  at_entry : (k n u t : ℕ) → n < k → Before u t (C n) → Before u t (C (max (e u) (e t)))
  at_entry zero n u t h b = absurd (omega arith)
  at_entry (suc k) n u t h b =
      elim (s.lower n u t b) [
        | inl q ↦ at_node u t n _ (omega (arith, s.entered n t (before_right (C n) u t b))) b
        | inr (inl q) ↦ at_node u t n _ (omega (arith, s.entered n u (before_left (C n) u t b))) b
        | inr (inr p) ↦ at_entry k p.0 u t (omega (arith, p.1)) p.2
      ]

  at_max : (n u t : ℕ) → Before u t (C n) → Before u t (C (max (e u) (e t)))
  at_max n u t b = at_entry (suc n) n u t (omega arith) b

  -- the step: the last to enter is taken out, and w is minimal among the others
  from_rest : (x : ℕ) (xs : List ℕ) (l : Largest e x xs) → Minimal C l.rest → Minimal C (x ∷ xs)
  from_rest x xs l (w, i, least) =
      let t = l.top in
      elim (dec_before t w (C (max (e t) (e w)))) [
        | inl b ↦ (
          t,
          l.its,
          λ u n j c. elim (l.out u j) [
            | inl q ↦ before_irrefl (C n) t (s.distinct n) (rw q at c)
            | inr k ↦
                let c' : Before u t (C (e t)) = at_node u t _ _ (omega (arith, l.high u j)) (at_max n u t c) in
                let b' : Before t w (C (e t)) = at_node t w _ _ (omega (arith, l.high w (l.back w i))) b in
                least u (e t) k (before_trans (C (e t)) u t w (s.distinct (e t)) c' b')
          ],
        )
        | inr free ↦ (w, l.back w i, λ u n j c. elim (l.out u j) [ inl q ↦ free (at_max n t w (rw q at c)) | inr k ↦ least u n k c ])
      ]

  least : (k x : ℕ) (xs : List ℕ) → length xs < k → Minimal C (x ∷ xs)
  least zero x xs h = absurd (omega arith)
  least (suc k) x xs h = from l l.rest refl (λ r rs. least k r rs)
    where
      l : Largest e x xs
      l = largest e x xs

      from : (l : Largest e x xs) (r : List ℕ) → (l.rest ≡ r) → ((y : ℕ) (ys : List ℕ) → length ys < k → Minimal C (y ∷ ys)) → Minimal C (x ∷ xs)
      from l [] q below = (l.top, l.its, λ u n j c. elim (l.out u j) [ inl p ↦ before_irrefl (C n) l.top (s.distinct n) (rw p at c) | inr i ↦ absurd (rw q at i) ])
      from l (r ∷ rs) q below = from_rest x xs l (rw q (below r rs (omega (arith, l.long, ap length q))))

pub minimal_exists : (C : ℕ → List ℕ) (e : ℕ → ℕ) → Descending C e → (x : ℕ) (xs : List ℕ) → Minimal C (x ∷ xs)
minimal_exists C e s x xs = least C e s (length (x ∷ xs)) x xs (omega arith)
