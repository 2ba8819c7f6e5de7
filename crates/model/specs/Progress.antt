-- A session never deadlocks, and where each is ended or waits, and one waits, some waiting
-- lock is granted when it is tried again.
use Rattle.std.specs.Prelude.{◌≡◌, ℕ, ◌<◌, ◌⊎◌, List, ◌∷◌, pos}
use Rattle.rules.specs.Rule.{Rule}
use Rattle.stores.specs.Store.{Store}
use Rattle.model.specs.declared.table.Phase.TheVariants.{Ended}
use Rattle.model.specs.Lists.{In}
use Rattle.model.specs.Calls.{Call, lock, done}
use Rattle.model.specs.State.{State, phase, holder, Waits, Holds}
use Rattle.model.specs.Checks.{grant_or_wait, answer}
use Rattle.model.specs.Step.{session}

-- each of ts waits for a node that one of ts holds
abbrev pub Deadlock : State → List ℕ → Type 0
Deadlock s ts = (t : ℕ) → In t ts → (n : ℕ) × (u : ℕ) × Waits s t n × Holds s u n × In u ts

-- each begun transaction is ended or waits
abbrev pub Standstill : State → Type 0
Standstill s = (t : ℕ) → t < s.begun → (phase s t ≡ Ended) ⊎ ((n : ℕ) × Waits s t n)

-- why a session s goes on
pub record Progress (s : State) : Type 0 where
  -- a waiting lock that is tried again is never refused
  pub again : (t n : ℕ) → Waits s t n → answer s (lock t n) ≡ grant_or_wait (holder s n)
  -- no transactions, one or more, all wait for one another
  pub no_deadlock : (t : ℕ) (ts : List ℕ) → Deadlock s (t ∷ ts) → ⊥
  -- where each is ended or waits, and some one waits, a waiting lock is granted when it is tried again
  pub goes_on : Standstill s → (t m : ℕ) → Waits s t m → (u : ℕ) × (n : ℕ) × Waits s u n × (answer s (lock u n) ≡ done (pos 0))

-- whatever the rule, the store and the calls
abbrev pub EverySessionProgresses : Type 0
EverySessionProgresses = (rule : Rule) (store : Store) (calls : List Call) → Progress (session rule store calls).state
