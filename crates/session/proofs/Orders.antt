-- The serial order, filled in by a loop.
use Rattle.std.proofs.Common.{◌≡◌, ℕ, suc, ◌+◌, ◌-◌, ◌<◌, ◌≤◌, List, [], ◌∷◌, ◌++◌, length, take, drop, set, Some, None, Ok, Option, Result, sym, refl, ap, ◌∙◌, subst, append_assoc, append-nil, arith}
use Rattle.std.proofs.lemmas.List.{take_more_set, take-append-drop, length-take-le, drop-set-lt, drop-drop, drop-append-le}
use Rattle.std.proofs.lemmas.Bool.{cond-false, le-ltb}
use Rattle.basics.specs.declared.refusal.Refusal.{Refusal}
use Rattle.basics.specs.Refusals.{answer_unless, leave_unless}
use Rattle.basics.specs.Sets.{with_member}
use Rattle.model.specs.Order.{ready, lowest, then, placing}
use Rattle.session.specs.Reports.{short, filled}

module _ (f : ℕ → ℕ) (n : ℕ) (L out : List ℕ) (p k : ℕ) (inv : L ≡ take k out ++ placing f n p (n - k)) where
  next : k < n → placing f n p (n - k) ≡ then (lowest (ready f p) n) (λ t. placing f n (with_member 32 p t) (n - (k + 1)))
  next h = let e : n - k ≡ suc (n - (k + 1)) = omega arith in rw e refl

  -- one more is placed
  pub order_more : (t : ℕ) → k < n → k < length out → Some t ≡ lowest (ready f p) n
      → L ≡ take (k + 1) (set out k t) ++ placing f n (with_member 32 p t) (n - (k + 1))
  order_more t h l e =
      inv
      ∙ ap (λ x. take k out ++ x) (next h ∙ ap (λ o. then o (λ t. placing f n (with_member 32 p t) (n - (k + 1)))) (sym e))
      ∙ sym (append_assoc (take k out) (t ∷ []) (placing f n (with_member 32 p t) (n - (k + 1))))
      ∙ ap (λ x. x ++ placing f n (with_member 32 p t) (n - (k + 1))) (sym (take_more_set out k t l))

  -- none is ready
  pub order_stops : k < n → None ≡ lowest (ready f p) n → take k out ≡ L
  order_stops h e = sym (inv ∙ ap (λ x. take k out ++ x) (next h ∙ ap (λ o. then o (λ t. placing f n (with_member 32 p t) (n - (k + 1)))) (sym e)) ∙ append-nil (take k out))

-- a buffer that is long enough
pub long_enough : (l n : ℕ) → n ≤ l → short l n ≡ None
long_enough l n h = cond-false _ _ _ (le-ltb l n h)

-- places of which the first k were filled in
module _ (L places : List ℕ) (k : ℕ) (front : take k places ≡ L) (long : k ≤ length places) where
  count : k ≡ length L
  count = sym (length-take-le k places long) ∙ ap length front

  -- what is answered
  pub front_answers : (o : Option Refusal) → o ≡ None → ◌≡◌ {A = Result ℕ Refusal} (Ok k) (answer_unless o (length L))
  front_answers o e = subst (λ (x : Option Refusal). ◌≡◌ {A = Result ℕ Refusal} (Ok k) (answer_unless x (length L))) (sym e) (ap (λ x. Ok x) count)

  -- what is left, where the places are the first n of a buffer, and the others are as they were
  pub front_leaves : (old : List ℕ) (n : ℕ) → n ≤ length old → length places ≡ n → drop k places ≡ drop k (take n old)
      → (o : Option Refusal) → o ≡ None → places ++ drop n old ≡ leave_unless o old (filled L old)
  front_leaves old n room all rest o e = subst (λ (x : Option Refusal). places ++ drop n old ≡ leave_unless x old (filled L old)) (sym e)
      (ap (λ x. x ++ drop n old) (sym (take-append-drop k places))
      ∙ append_assoc (take k places) (drop k places) (drop n old)
      ∙ ap (λ x. x ++ (drop k places ++ drop n old)) front
      ∙ ap (λ x. L ++ (x ++ drop n old)) rest
      ∙ ap (λ x. L ++ x) (sym (drop-append-le k (take n old) (drop n old) (omega (arith, length-take-le n old room))) ∙ ap (drop k) (take-append-drop n old))
      ∙ ap (λ i. L ++ drop i old) count)

-- a write to the front leaves the rest
pub rest_more : (out old : List ℕ) (k t : ℕ) → drop k out ≡ drop k old → drop (k + 1) (set out k t) ≡ drop (k + 1) old
rest_more out old k t e =
    drop-set-lt (k + 1) out k t (omega arith)
    ∙ sym (drop-drop 1 k out) ∙ ap (drop 1) e ∙ drop-drop 1 k old
