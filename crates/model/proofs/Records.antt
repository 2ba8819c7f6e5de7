-- The records of the transactions after one of them is replaced.
use Rattle.std.proofs.Common.{◌≡◌, ℕ, ◌<◌, length, get_or, set, ap, ◌∙◌, get_or-set_other, get_or-set_same}
use Rattle.model.specs.declared.table.Record.{Record}
use Rattle.model.specs.State.{State, blank, record_of, phase, locked, held}

-- in s' the record of t is r, and the others are those of s
pub record Replaced (s s' : State) (t : ℕ) (r : Record) : Type 0 where
  pub phase_here : (u : ℕ) → u ≡ t → phase s' u ≡ r.phase
  pub phase_there : (u : ℕ) → (u ≡ t → ⊥) → phase s' u ≡ phase s u
  pub locked_here : (u : ℕ) → u ≡ t → locked s' u ≡ r.locked.mask
  pub locked_there : (u : ℕ) → (u ≡ t → ⊥) → locked s' u ≡ locked s u
  pub held_here : (u : ℕ) → u ≡ t → held s' u ≡ r.held.mask
  pub held_there : (u : ℕ) → (u ≡ t → ⊥) → held s' u ≡ held s u

pub replaced : (s s' : State) (t : ℕ) (r : Record) → t < length s.records → s'.records ≡ set s.records t r → Replaced s s' t r
replaced s s' t r h e = record {
  phase_here = λ u q. ap (λ x. x.phase) (here u q);
  phase_there = λ u f. ap (λ x. x.phase) (there u f);
  locked_here = λ u q. ap (λ x. x.locked.mask) (here u q);
  locked_there = λ u f. ap (λ x. x.locked.mask) (there u f);
  held_here = λ u q. ap (λ x. x.held.mask) (here u q);
  held_there = λ u f. ap (λ x. x.held.mask) (there u f);
}
  where
    here : (u : ℕ) → u ≡ t → record_of s' u ≡ r
    here u q = ap (λ rs. get_or rs u blank) e ∙ ap (λ x. get_or (set s.records t r) x blank) q ∙ get_or-set_same s.records t r blank h

    there : (u : ℕ) → (u ≡ t → ⊥) → record_of s' u ≡ record_of s u
    there u f = ap (λ rs. get_or rs u blank) e ∙ get_or-set_other s.records t u r blank f
