-- A session seen as lists of lockers, and what every call keeps of it.
use Rattle.std.proofs.Common.{◌≡◌, ℕ, true, ◌⊎◌, ◌↔◌, List, [], ◌∷◌, ◌++◌}
use Rattle.rules.specs.Rule.{Rule}
use Rattle.model.specs.Lists.{In, Distinct}
use Rattle.model.specs.History.{Access}
use Rattle.model.proofs.Members.{◌∈◌, Within}
use Rattle.model.proofs.Minimal.{Descending}
use Rattle.model.proofs.Traces.{Traced}

-- who locked each node, the first node of each transaction, what it ever locked and still holds, and all accesses
pub record View : Type 0 where
  pub lockers : ℕ → List ℕ
  pub entry : ℕ → ℕ
  pub locked : ℕ → ℕ
  pub held : ℕ → ℕ
  pub trace : List Access

-- what a release and an access leave as it was
pub record Same (s s' : View) : Type 0 where
  pub lockers : (m : ℕ) → s'.lockers m ≡ s.lockers m
  pub entry : (u : ℕ) → s'.entry u ≡ s.entry u
  pub locked : (u : ℕ) → s'.locked u ≡ s.locked u

module _ (rule : Rule) where
  -- who locked H and holds K may lock n
  abbrev pub May : ℕ → ℕ → ℕ → Type 0
  May n H K = rule.allows n H K ≡ true

  -- t may lock n, as its first node or by the rule; e is its entry from then on
  abbrev pub Allowed : View → ℕ → ℕ → ℕ → Type 0
  Allowed s n t e =
      ((s.locked t ≡ 0) × (e ≡ n)) ⊎ ((s.locked t ≡ 0 → ⊥) × May n (s.locked t) (s.held t) × (e ≡ s.entry t))

  -- s' is s after t was granted n
  pub record Granted (s s' : View) (n t : ℕ) : Type 0 where
    pub new : In t (s.lockers n) → ⊥
    pub free : (u : ℕ) → n ∈ s.held u → ⊥
    pub allowed : Allowed s n t (s'.entry t)
    pub entries : (u : ℕ) → (u ≡ t → ⊥) → s'.entry u ≡ s.entry u
    pub here : s'.lockers n ≡ s.lockers n ++ (t ∷ [])
    pub elsewhere : (m : ℕ) → (m ≡ n → ⊥) → s'.lockers m ≡ s.lockers m
    pub locks : (m u : ℕ) → (m ∈ s'.locked u) ↔ ((m ∈ s.locked u) ⊎ ((m ≡ n) × (u ≡ t)))
    pub holds : (m u : ℕ) → (m ∈ s'.held u) ↔ ((m ∈ s.held u) ⊎ ((m ≡ n) × (u ≡ t)))
    pub quiet : s'.trace ≡ s.trace

  -- why a transaction that locked L could lock n: it had locked H and held K
  pub record Reason (n L : ℕ) : Type 0 where
    pub H : ℕ
    pub K : ℕ
    pub some : H ≡ 0 → ⊥
    pub inside : Within K H
    pub part : Within H L
    pub allows : May n H K

  -- what every call keeps
  pub record Kept (s : View) : Type 0 where
    pub descending : Descending s.lockers s.entry
    pub locked_is : (n t : ℕ) → (n ∈ s.locked t) ↔ In t (s.lockers n)
    pub held_last : (n t : ℕ) → n ∈ s.held t → (xs : List ℕ) × (s.lockers n ≡ xs ++ (t ∷ []))
    pub reason : (n u : ℕ) → In u (s.lockers n) → (n ≡ s.entry u) ⊎ Reason n (s.locked u)
    pub traced : Traced s.lockers s.trace

  -- W n are some that may lock n next, in any order, and e their entries then
  pub record Waiting (s : View) (W : ℕ → List ℕ) (e : ℕ → ℕ) : Type 0 where
    pub distinct : (n : ℕ) → Distinct (s.lockers n ++ W n)
    pub allowed : (n t : ℕ) → In t (W n) → Allowed s n t (e t)
    pub entries : (n u : ℕ) → In u (s.lockers n) → e u ≡ s.entry u
