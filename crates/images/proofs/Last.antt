-- The last number of a range that passes a test: `rfind` over a range.
use Rattle.std.proofs.Common.{◌≡◌, ℕ, ◌+◌, ◌-◌, ◌<◌, ◌≤◌, Bool, true, false, List, [], ◌∷◌, Option, Some, None, MatchOption, sym, subst, inl, inr, arith}
use denote.Param.Members.{Mut}
use denote.Ref.{Bor}
use Rattle.std.proofs.lemmas.Bool.{cases_eq}
use Rattle.std.specs.Fn.{CalledAt}
use Rattle.std.specs.Iterator.{YieldsThen}
use Rattle.std.specs.List.{FoldsTo}
use Rattle.std.specs.Option.{IfSome}
use Rattle.std.specs.declared.ops.Range.{Range}

-- from the back the end moves down by one and comes
abbrev pub nat_range_steps_back : Range ℕ → Option ℕ → Range ℕ → Type 0
nat_range_steps_back s r t = (t.start ≡ s.start) × MatchOption r ((s.end - s.start ≡ 0) × (t.end ≡ s.end)) (λ x. (0 < s.end - s.start) × (x ≡ t.end) × (s.end ≡ t.end + 1))

-- r is the last number of the range that passes, where there is one
abbrev pub IsLast : (ℕ → Type 0) → (ℕ → Type 0) → Range ℕ → Option ℕ → Type 0
IsLast Yes No s r = MatchOption r ((k : ℕ) → s.start ≤ k → k < s.end → No k) (λ i. (i < s.end) × Yes i × ((k : ℕ) → i < k → k < s.end → No k))

module _ {F : Type 0} {g : Mut F (Bor ℕ × Unit {0}) Bool} (f : F) (Yes No : ℕ → Type 0) (yes : (x : ℕ) (q : F) → CalledAt g f x true q → Yes x) (no : (x : ℕ) (q : F) → CalledAt g f x false q → (q ≡ f) × No x) where
  ends : (s u : Range ℕ) (r : Option ℕ) → nat_range_steps_back s r u → IfSome r (λ x. (h : F) × CalledAt g f x true h) → IsLast Yes No s r
  ends s u None e h = λ k low high. absurd (omega (arith, e.1.0))
  ends s u (Some x) e h = (omega (arith, e.1.1, e.1.2), yes x h.0 h.1, λ k low high. absurd (omega (arith, e.1.1, e.1.2)))

  more : (s t : Range ℕ) (r : Option ℕ) (x : ℕ) → t.start ≡ s.start → x ≡ t.end → s.end ≡ t.end + 1 → No x → IsLast Yes No t r → IsLast Yes No s r
  more s t None x a b c n l = λ k low high. elim (cases_eq k x) [
    | inl q ↦ subst No (sym q) n
    | inr ne ↦ l k (omega arith) (omega arith)
  ]
  more s t (Some i) x a b c n l = (
    omega (arith, l.0),
    l.1,
    λ k low high. elim (cases_eq k x) [
      | inl q ↦ subst No (sym q) n
      | inr ne ↦ l.2 k low (omega arith)
    ],
  )

  pub last_from_rfind : (xs : List ℕ) (s u : Range ℕ) (j : F) (r : Option ℕ) → YieldsThen nat_range_steps_back s xs r u → FoldsTo (λ p x q. CalledAt g p x false q) f xs j → IfSome r (λ x. (h : F) × CalledAt g j x true h) → IsLast Yes No s r
  last_from_rfind [] s u j r (t, y, e) folds h =
      ends s u r (subst (λ a. nat_range_steps_back a r u) (sym y) e) (subst (λ q. IfSome r (λ x. (h : F) × CalledAt g q x true h)) (sym folds) h)
  last_from_rfind (x ∷ xs) s u j r (t, (m, step, y), e) (q, c, folds) h =
      let (same, n) = no x q c in
      more s m r x step.0 step.1.1 step.1.2 n (last_from_rfind xs m u j r (t, y, e) (subst (λ p. FoldsTo (λ p x q. CalledAt g p x false q) p xs j) same folds) h)
