-- What each call is answered. A check is a test, and the refusal that is given where the test is true.
use Rattle.std.specs.Prelude.{ℕ, Bool, true, false, not, List, [], ◌∷◌, ◌++◌, ℤ, pos, ◌+ℤ◌, Some, None, Option, ◌==◌, nat_le}
use Rattle.basics.specs.declared.transaction.TransactionNumber.{TransactionNumber}
use Rattle.basics.specs.declared.refusal.Refusal.{Refusal}
use Rattle.basics.specs.declared.refusal.Refusal.TheVariants.{
  TooManyTransactions,
  NotBegun,
  AlreadyEnded,
  NoSuchNode,
  StillWaiting,
  NotWaiting,
  NotHeld,
  LockedBefore,
  RuleDenies,
  AmountOutOfBounds,
  OutOfRange,
}
use Rattle.basics.specs.Sets.{has}
use Rattle.stores.specs.Store.{Store, in_range}
use Rattle.model.specs.declared.table.Phase.{Phase}
use Rattle.model.specs.declared.table.Phase.TheVariants.{Open, Waiting, Ended}
use Rattle.model.specs.Calls.{Operation, read, write, adjust, Call, begin, lock, release, access, withdraw, end, Answer, done, waiting, in_bounds, first_refusal, or_else, unless_refused}
use Rattle.model.specs.State.{State, phase, locked, held, holder, count, begun_count}

-- it is ended
abbrev pub is_ended : Phase → Bool
is_ended Open = false
is_ended (Waiting n) = false
is_ended Ended = true

-- it waits for a node
abbrev pub is_waiting : Phase → Bool
is_waiting Open = false
is_waiting (Waiting n) = true
is_waiting Ended = false

-- it waits for a node other than n
abbrev pub waits_elsewhere : Phase → ℕ → Bool
waits_elsewhere Open n = false
waits_elsewhere (Waiting m) n = not (m.0 == n)
waits_elsewhere Ended n = false

-- the checks of a begin: there must be room for one more
abbrev pub begin_checks : State → List (Bool × Refusal)
begin_checks s = (nat_le 32 s.begun, TooManyTransactions) ∷ []

-- of every other call: its transaction t must be begun, and not ended
abbrev pub transaction_checks : State → ℕ → List (Bool × Refusal)
transaction_checks s t = (nat_le (begun_count s) t, NotBegun) ∷ (is_ended (phase s t), AlreadyEnded) ∷ []

-- of a lock: n must be a node, t must wait for no other and never have locked n, and the rule must allow it
abbrev pub lock_checks : State → ℕ → ℕ → List (Bool × Refusal)
lock_checks s t n =
    transaction_checks s t
    ++ (nat_le (count s) n, NoSuchNode) ∷ (waits_elsewhere (phase s t) n, StillWaiting)
    ∷ (has (locked s t) n, LockedBefore) ∷ (not (s.rule.allows n (locked s t) (held s t)), RuleDenies) ∷ []

-- of a release or an access: n must be a node, and t must not wait, and must hold n
abbrev pub use_checks : State → ℕ → ℕ → List (Bool × Refusal)
use_checks s t n =
    transaction_checks s t
    ++ (nat_le (count s) n, NoSuchNode) ∷ (is_waiting (phase s t), StillWaiting) ∷ (not (has (held s t) n), NotHeld) ∷ []

-- of an operation at n: its amount must be in bounds, and the new value in the range of n
abbrev pub operation_checks : Store → ℕ → Operation → List (Bool × Refusal)
operation_checks s n read = []
operation_checks s n (write v) = (not (in_range s n v), OutOfRange) ∷ []
operation_checks s n (adjust d) = (not (in_bounds d), AmountOutOfBounds) ∷ (not (in_range s n (s.values n +ℤ d)), OutOfRange) ∷ []

-- of a withdraw: t must wait
abbrev pub withdraw_checks : State → ℕ → List (Bool × Refusal)
withdraw_checks s t = transaction_checks s t ++ (not (is_waiting (phase s t)), NotWaiting) ∷ []

-- of an end: t must not wait
abbrev pub end_checks : State → ℕ → List (Bool × Refusal)
end_checks s t = transaction_checks s t ++ (is_waiting (phase s t), StillWaiting) ∷ []

-- why a call is refused, if it is: of its checks, in the order of looking, the first that applies
abbrev pub refusal : State → Call → Option Refusal
refusal s begin = first_refusal (begin_checks s)
refusal s (lock t n) = first_refusal (lock_checks s t n)
refusal s (release t n) = first_refusal (use_checks s t n)
refusal s (access t n op) = or_else (first_refusal (use_checks s t n)) (first_refusal (operation_checks s.store n op))
refusal s (withdraw t) = first_refusal (withdraw_checks s t)
refusal s (end t) = first_refusal (end_checks s t)

-- a lock that is not refused: granted if nobody holds the node, else t waits for its holder
abbrev pub grant_or_wait : Option TransactionNumber → Answer
grant_or_wait None = done (pos 0)
grant_or_wait (Some u) = waiting u.0

-- the number that an operation gives: the value that it reads, else 0
abbrev pub result : Store → ℕ → Operation → ℤ
result s n read = s.values n
result s n (write v) = pos 0
result s n (adjust d) = pos 0

-- what a call is answered that is not refused
abbrev pub unrefused : State → Call → Answer
unrefused s begin = done (pos s.begun)
unrefused s (lock t n) = grant_or_wait (holder s n)
unrefused s (release t n) = done (pos 0)
unrefused s (access t n op) = done (result s.store n op)
unrefused s (withdraw t) = done (pos 0)
unrefused s (end t) = done (pos 0)

-- what a call is answered
abbrev pub answer : State → Call → Answer
answer s c = unless_refused (refusal s c) (unrefused s c)
