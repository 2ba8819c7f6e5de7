-- A session does what a serial replay of its transactions does.
use Rattle.std.specs.Prelude.{◌≡◌, ℕ, ◌<◌, ◌≤◌, true, ◌⊎◌, ◌↔◌, List, map, ◌≢◌}
use Rattle.basics.specs.Sets.{has}
use Rattle.rules.specs.Rule.{Rule}
use Rattle.stores.specs.Store.{Store}
use Rattle.model.specs.Lists.{In, Before, Distinct}
use Rattle.model.specs.Calls.{Call, Event}
use Rattle.model.specs.State.{State, Waits, Holds}
use Rattle.model.specs.Step.{Run, session}
use Rattle.model.specs.Order.{predecessors, serial_order}
use Rattle.model.specs.History.{lockers_of, accesses}
use Rattle.model.specs.Standing.{WaitsIn, HoldsIn}
use Rattle.model.specs.Replay.{Below, serial, replay, replay_answers}

-- in the history h another, u, locked some node before t locked it, or t waits at its end for a node that u holds
abbrev pub Precedes : List Event → ℕ → ℕ → Type 0
Precedes h u t =
    (u ≢ t) × (((n : ℕ) × Before u t (lockers_of h n)) ⊎ ((n : ℕ) × WaitsIn h t n × HoldsIn h u n))

-- a history h that began with the store `first` and led to the session s is explained by the order L
pub record Explained (first : Store) (h : List Event) (s : State) (L : List ℕ) : Type 0 where
  -- L has each begun transaction once, and no other
  pub once : Distinct L
  pub all : (t : ℕ) → In t L ↔ (t < s.begun)
  -- each access is of a begun transaction, so that the replay leaves none out
  pub whole : Below s.begun (accesses h)
  -- replayed in series, in that order, each access is answered as it was
  pub answers : replay_answers first (serial L (accesses h)) ≡ map (λ a. a.answer) (serial L (accesses h))
  -- and each node ends with the value that it has
  pub values : (n : ℕ) → (replay first (serial L (accesses h))).values n ≡ s.store.values n
  -- whoever waits for a node comes after its holder
  pub waits : (t n u : ℕ) → Waits s t n → Holds s u n → Before u t L
  -- each comes after all that precede it
  pub follows : (u t : ℕ) → Precedes h u t → Before u t L
  -- the predecessors that the session reports are those that precede
  pub report : (u t : ℕ) → (has (predecessors s t) u ≡ true) ↔ Precedes h u t
  -- none, of a transaction that is not begun
  pub none : (t : ℕ) → s.begun ≤ t → predecessors s t ≡ 0

-- a run is explained by the serial order of its session
abbrev pub RunExplained : Store → Run → Type 0
RunExplained first r = Explained first r.log r.state (serial_order r.state)

-- whatever the rule, the store and the calls
abbrev pub EverySessionExplained : Type 0
EverySessionExplained = (rule : Rule) (store : Store) (calls : List Call) → RunExplained store (session rule store calls)
