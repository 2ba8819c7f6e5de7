-- What a session reports beside its predecessors and its serial order.
use Rattle.std.specs.Prelude.{◌≡◌, ℕ, ◌*◌, ◌<◌, Bool, true, cond, ◌⊎◌, ◌↔◌, List, [], ◌∷◌, ◌++◌, length, take, drop, Some, None, Option, Result, nat_le, nat_lt}
use Rattle.basics.specs.declared.refusal.Refusal.{Refusal}
use Rattle.basics.specs.declared.refusal.Refusal.TheVariants.{ShortBuffer, NoSuchNode}
use Rattle.basics.specs.declared.transaction.TransactionNumber.{TransactionNumber}
use Rattle.basics.specs.Refusals.{answer_unless}
use Rattle.basics.specs.Sets.{has, counted}
use Rattle.graph.specs.Walks.{Walk}
use Rattle.model.specs.Checks.{is_waiting}
use Rattle.model.specs.Lists.{Distinct}
use Rattle.model.specs.Order.{predecessors}
use Rattle.model.specs.State.{State, phase, holder, count, begun_count, Waits}

-- the holder of node n, where the session has such a node
abbrev pub holder_report : State → ℕ → Result (Option TransactionNumber) Refusal
holder_report s n = answer_unless (cond (nat_le (count s) n) (Some NoSuchNode) None) (holder s n)

-- u is a predecessor of t
abbrev pub is_predecessor : State → ℕ → ℕ → Bool
is_predecessor s t u = has (predecessors s t) u

-- a chain of n + 1 steps, each from a transaction to a predecessor of it, leads from t to u
abbrev pub Chain : State → ℕ → ℕ → ℕ → Type 0
Chain s t n u = Walk (is_predecessor s) (predecessors s t) n u

-- the set r has exactly those to which a chain leads from t
abbrev pub AllBefore : State → ℕ → ℕ → Type 0
AllBefore s t r = (u : ℕ) → (has r u ≡ true) ↔ ((n : ℕ) × Chain s t n u)

-- a buffer of this length is too short for so many bytes
abbrev pub short : ℕ → ℕ → Option Refusal
short length needed = cond (nat_lt length needed) (Some ShortBuffer) None

-- these bytes, and then the buffer as it was
abbrev pub filled : List ℕ → List ℕ → List ℕ
filled bytes buffer = bytes ++ drop (length bytes) buffer

-- how many transactions wait
abbrev pub waiting_count : State → ℕ
waiting_count s = counted (λ t. is_waiting (phase s t)) (begun_count s)

-- t and n stand as a pair in the bytes
abbrev pub Listed : ℕ → ℕ → List ℕ → Type 0
Listed t n [] = ⊥
Listed t n (u ∷ []) = ⊥
Listed t n (u ∷ (m ∷ bytes)) = ((t ≡ u) × (n ≡ m)) ⊎ Listed t n bytes

-- the first of each pair
abbrev pub firsts : List ℕ → List ℕ
firsts [] = []
firsts (u ∷ []) = []
firsts (u ∷ (m ∷ bytes)) = u ∷ firsts bytes

-- the bytes list each waiting transaction once, with its node, and nothing else
pub record ListsWaiting (s : State) (bytes : List ℕ) : Type 0 where
  pub whole : length bytes ≡ 2 * waiting_count s
  pub listed : (t n : ℕ) → Listed t n bytes ↔ ((t < begun_count s) × Waits s t n)
  pub once : Distinct (firsts bytes)

-- what a buffer holds after it was to be filled with the waiting list: the list, and then what it was, unless refused
abbrev pub WaitingFilled : Option Refusal → State → List ℕ → List ℕ → Type 0
WaitingFilled (Some e) s old new = new ≡ old
WaitingFilled None s old new =
    ListsWaiting s (take (2 * waiting_count s) new)
    × (drop (2 * waiting_count s) new ≡ drop (2 * waiting_count s) old)
