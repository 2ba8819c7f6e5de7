-- The tables of a session agree with one another, and with its history.
use Rattle.std.specs.Prelude.{◌≡◌, ℕ, ◌<◌, ◌≤◌, true, ◌↔◌, List, [], ◌∷◌, ◌++◌, length, ◌≢◌}
use Rattle.basics.specs.Sets.{has, within}
use Rattle.rules.specs.Rule.{Rule}
use Rattle.stores.specs.Store.{Store}
use Rattle.model.specs.declared.table.Phase.TheVariants.{Ended}
use Rattle.model.specs.Lists.{In, Before}
use Rattle.model.specs.Calls.{Call, Event}
use Rattle.model.specs.Standing.{phase_in, holder_in, begun_in}
use Rattle.model.specs.State.{State, phase, holder, locked, held, lockers_at, earlier_than, count, Waits, Holds}
use Rattle.model.specs.Step.{Run, session}
use Rattle.model.specs.History.{lockers_of}

-- a history h led to the session s
pub record Consistent (h : List Event) (s : State) : Type 0 where
  pub few : s.begun ≤ 32
  pub long_records : length s.records ≡ 32
  pub long_holders : length s.holders ≡ 64
  pub long_lockers : length s.lockers ≡ 64
  pub long_earlier : length s.earlier ≡ 32
  -- a node has for its holder the one whose record holds it: a begun one, the last to have locked it
  pub holds : (u n : ℕ) → Holds s u n ↔ (has (held s u) n ≡ true)
  pub begun_holder : (u n : ℕ) → Holds s u n → u < s.begun
  pub last_locker : (u n : ℕ) → Holds s u n → (us : List ℕ) × (lockers_of h n ≡ us ++ (u ∷ []))
  -- what is held was locked; who is not begun has locked nothing, and who is ended holds nothing
  pub held_locked : (t : ℕ) → within (held s t) (locked s t) ≡ true
  pub unbegun_empty : (t : ℕ) → s.begun ≤ t → locked s t ≡ 0
  pub ended_empty : (t : ℕ) → phase s t ≡ Ended → held s t ≡ 0
  -- who waits is begun, and waits for a node of the session that it never locked
  pub waits_new : (t n : ℕ) → Waits s t n → (t < s.begun) × (n < count s) × (has (locked s t) n ≢ true)
  -- how each transaction stands, who holds each node and how many are begun is what the history tells
  pub phase_is : (t : ℕ) → phase s t ≡ phase_in h t
  pub holder_is : (n : ℕ) → holder s n ≡ holder_in h n
  pub begun_is : s.begun ≡ begun_in h
  -- the sets tell the history of locks
  pub locked_is : (t n : ℕ) → (has (locked s t) n ≡ true) ↔ In t (lockers_of h n)
  pub lockers_is : (t n : ℕ) → (has (lockers_at s n) t ≡ true) ↔ In t (lockers_of h n)
  pub earlier_is : (u t : ℕ) → (has (earlier_than s t) u ≡ true) ↔ ((n : ℕ) × Before u t (lockers_of h n))

-- a run is consistent
abbrev pub RunConsistent : Run → Type 0
RunConsistent r = Consistent r.log r.state

-- whatever the rule, the store and the calls
abbrev pub EverySessionConsistent : Type 0
EverySessionConsistent = (rule : Rule) (store : Store) (calls : List Call) → RunConsistent (session rule store calls)
