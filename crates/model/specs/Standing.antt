-- How transactions and nodes stand, told by the history of calls and answers alone.
use Rattle.std.specs.Prelude.{◌≡◌, ℕ, ◌+◌, cond, List, [], ◌∷◌, Some, None, Option, ◌==◌}
use Rattle.basics.specs.declared.transaction.TransactionNumber.{TransactionNumber}
use Rattle.model.specs.declared.table.Phase.{Phase}
use Rattle.model.specs.declared.table.Phase.TheVariants.{Open, Waiting, Ended}
use Rattle.model.specs.Calls.{Call, begin, lock, release, access, withdraw, end, Answer, done, waiting, refused, Event}
use Rattle.model.specs.State.{node, transaction}

-- what an answer makes of x: y where the call was done, z where it is to wait, and nothing where it was refused
abbrev pub by_answer : {X : Type 0} → Answer → X → X → X → X
by_answer (done r) x y z = y
by_answer (waiting u) x y z = z
by_answer (refused k) x y z = x

-- how t stands after a call that was answered so, if it stood at p before
abbrev pub phase_after : Phase → Call → Answer → ℕ → Phase
phase_after p begin a t = p
phase_after p (lock u n) a t = cond (t == u) (by_answer a p Open (Waiting (node n))) p
phase_after p (release u n) a t = p
phase_after p (access u n op) a t = p
phase_after p (withdraw u) a t = cond (t == u) (by_answer a p Open p) p
phase_after p (end u) a t = cond (t == u) (by_answer a p Ended p) p

abbrev pub phase_told : Phase → List Event → ℕ → Phase
phase_told p [] t = p
phase_told p (e ∷ h) t = phase_told (phase_after p e.call e.answer t) h t

-- how t stands after a history: it is open until it is to wait or has ended
abbrev pub phase_in : List Event → ℕ → Phase
phase_in h t = phase_told Open h t

-- nobody, in place of u
abbrev pub holder_without : ℕ → Option TransactionNumber → Option TransactionNumber
holder_without u None = None
holder_without u (Some v) = cond (v.0 == u) None (Some v)

-- who holds n after a call that was answered so, if o held it before
abbrev pub holder_after : Option TransactionNumber → Call → Answer → ℕ → Option TransactionNumber
holder_after o begin a n = o
holder_after o (lock u m) a n = cond (n == m) (by_answer a o (Some (transaction u)) o) o
holder_after o (release u m) a n = cond (n == m) (by_answer a o None o) o
holder_after o (access u m op) a n = o
holder_after o (withdraw u) a n = o
holder_after o (end u) a n = by_answer a o (holder_without u o) o

abbrev pub holder_told : Option TransactionNumber → List Event → ℕ → Option TransactionNumber
holder_told o [] n = o
holder_told o (e ∷ h) n = holder_told (holder_after o e.call e.answer n) h n

-- who holds n after a history: who locked it last, until it releases it or ends
abbrev pub holder_in : List Event → ℕ → Option TransactionNumber
holder_in h n = holder_told None h n

-- how many transactions are begun by a call that was answered so
abbrev pub begins : Call → Answer → ℕ
begins begin a = by_answer a 0 1 0
begins (lock u m) a = 0
begins (release u m) a = 0
begins (access u m op) a = 0
begins (withdraw u) a = 0
begins (end u) a = 0

-- how many are begun in a history
abbrev pub begun_in : List Event → ℕ
begun_in [] = 0
begun_in (e ∷ h) = begins e.call e.answer + begun_in h

-- t waits for n, as the history tells
abbrev pub WaitsIn : List Event → ℕ → ℕ → Type 0
WaitsIn h t n = phase_in h t ≡ Waiting (node n)

-- u holds n, as the history tells
abbrev pub HoldsIn : List Event → ℕ → ℕ → Type 0
HoldsIn h u n = holder_in h n ≡ Some (transaction u)
