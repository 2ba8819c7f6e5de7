-- The serial replay of accesses, on a store of one copy without locks.
use Rattle.std.specs.Prelude.{ℕ, ◌<◌, cond, List, [], ◌∷◌, ◌++◌, ℤ, pos, ◌+ℤ◌, filter, nat_eq}
use Rattle.basics.specs.declared.refusal.Refusal.TheVariants.{AmountOutOfBounds, OutOfRange}
use Rattle.stores.specs.Store.{Store, in_range, set_value}
use Rattle.model.specs.Calls.{Operation, read, write, adjust, Answer, done, refused, in_bounds}
use Rattle.model.specs.History.{Access}

-- a write of v at node n is refused where v is outside the range
abbrev pub write_answer : Store → ℕ → ℤ → Answer
write_answer s n v = cond (in_range s n v) (done (pos 0)) (refused OutOfRange)

-- else v becomes the value
abbrev pub written : Store → ℕ → ℤ → Store
written s n v = cond (in_range s n v) (set_value s n v) s

-- what an operation at node n is answered: an adjust writes value + d, unless d is out of bounds
abbrev pub replay_answer : Store → ℕ → Operation → Answer
replay_answer s n read = done (s.values n)
replay_answer s n (write v) = write_answer s n v
replay_answer s n (adjust d) = cond (in_bounds d) (write_answer s n (s.values n +ℤ d)) (refused AmountOutOfBounds)

-- the store after it
abbrev pub replayed : Store → ℕ → Operation → Store
replayed s n read = s
replayed s n (write v) = written s n v
replayed s n (adjust d) = cond (in_bounds d) (written s n (s.values n +ℤ d)) s

-- what each access is answered, one after the other
abbrev pub replay_answers : Store → List Access → List Answer
replay_answers s [] = []
replay_answers s (a ∷ A) = replay_answer s a.node a.operation ∷ replay_answers (replayed s a.node a.operation) A

-- the store after all of them
abbrev pub replay : Store → List Access → Store
replay s [] = s
replay s (a ∷ A) = replay (replayed s a.node a.operation) A

-- the accesses of transaction t
abbrev pub accesses_by : ℕ → List Access → List Access
accesses_by t = filter (λ a. nat_eq a.by t)

-- the accesses in series: all of the first transaction of L, then all of the second, and so on
abbrev pub serial : List ℕ → List Access → List Access
serial [] A = []
serial (t ∷ L) A = accesses_by t A ++ serial L A

-- each access is of a transaction below k
abbrev pub Below : ℕ → List Access → Type 0
Below k [] = Unit {0}
Below k (a ∷ A) = (a.by < k) × Below k A
