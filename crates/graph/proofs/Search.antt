-- What the search knows on its way, and that it ends.
use Rattle.std.proofs.Common.{◌≡◌, ℕ, zero, suc, Bool, true, false, not, ◌&&◌, ◌||◌, eqb, sym, ◌∙◌, subst, ⊎_elim, arith}
use Rattle.std.proofs.lemmas.Bool.{or_cases, or_left, or_right, eqb-true, and_parts, not-true, both_ways}
use Rattle.std.proofs.lemmas.Bool.Decides.{nat_tests}
use Rattle.basics.specs.Sets.{has}
use Rattle.graph.specs.Walks.{Walk, Reached}

-- what was seen is reached by a walk, and the edges of what was followed lead to what was seen
pub record Sofar (edge : ℕ → ℕ → Bool) (start seen followed : ℕ) : Type 0 where
  pub starts : (j : ℕ) → has start j ≡ true → has seen j ≡ true
  pub sound : (j : ℕ) → has seen j ≡ true → (n : ℕ) × Walk edge start n j
  pub closed : (i j : ℕ) → has followed i ≡ true → edge i j ≡ true → has seen j ≡ true

pub first : (edge : ℕ → ℕ → Bool) (start none : ℕ) → ((k : ℕ) → has none k ≡ false) → Sofar edge start start none
first edge start none empty = record {
  starts = λ j h. h;
  sound = λ j h. (0, h);
  closed = λ i j h e. absurd (both_ways (has none i) (empty i) h);
}

-- a point of `rest`, which is what was seen and not followed
pub picked : (seen followed rest i : ℕ) → ((k : ℕ) → has rest k ≡ (has seen k && not (has followed k))) → has rest i ≡ true → (has seen i ≡ true) × (has followed i ≡ false)
picked seen followed rest i r h =
    let (l, n) = and_parts (has seen i) (not (has followed i)) (sym (r i) ∙ h) in
    (l, not-true _ n)

pub none_left : (seen followed rest : ℕ) → ((k : ℕ) → has rest k ≡ (has seen k && not (has followed k))) → ((k : ℕ) → has rest k ≡ false) → (i : ℕ) → has seen i ≡ true → has followed i ≡ true
none_left seen followed rest r empty i h =
    let e : (has seen i && not (has followed i)) ≡ false = sym (r i) ∙ empty i in
    grind (arith, nat_tests)

-- the edges from i followed to `next`
pub one_more : (edge : ℕ → ℕ → Bool) (past : ℕ → Bool) (start seen followed i next more done : ℕ) → Sofar edge start seen followed → has seen i ≡ true → ((j : ℕ) → has next j ≡ edge i j) → ((j : ℕ) → has more j ≡ (has seen j || has next j)) → ((k : ℕ) → has done k ≡ (has followed k || (eqb k i && past k))) → Sofar edge start more done
one_more edge past start seen followed i next more done s h told m d = record {
  starts = λ j k. m j ∙ or_left (has seen j) (has next j) (s.starts j k);
  sound = λ j k.
      ⊎_elim (s.sound j) (λ e. let w = s.sound i h in (suc w.0, (i, (w.1, sym (told j) ∙ e))))
      (or_cases (has seen j) (has next j) (sym (m j) ∙ k));
  closed = λ a j k e.
      ⊎_elim (λ old. m j ∙ or_left (has seen j) (has next j) (s.closed a j old e))
      (λ new.
      let q : a ≡ i = eqb-true a i (and_parts (eqb a i) (past a) new).0 in
      m j ∙ or_right (has seen j) (has next j) (told j ∙ subst (λ p. edge p j ≡ true) q e))
      (or_cases (has followed a) (eqb a i && past a) (sym (d a) ∙ k));
}

walked : (edge : ℕ → ℕ → Bool) (start seen followed : ℕ) → Sofar edge start seen followed → ((i : ℕ) → has seen i ≡ true → has followed i ≡ true) → (n j : ℕ) → Walk edge start n j → has seen j ≡ true
walked edge start seen followed s all zero j h = s.starts j h
walked edge start seen followed s all (suc n) j w =
    let i = w.0 in
    s.closed i j (all i (walked edge start seen followed s all n i w.1.0)) w.1.1

pub ended : (edge : ℕ → ℕ → Bool) (start seen followed : ℕ) → Sofar edge start seen followed → ((i : ℕ) → has seen i ≡ true → has followed i ≡ true) → Reached edge start seen
ended edge start seen followed s all j = (s.sound j, λ w. walked edge start seen followed s all w.0 j w.1)
