-- What calls and their answers tell: who was granted each lock, and who read and wrote what.
use Rattle.std.specs.Prelude.{ℕ, Bool, cond, ◌||◌, List, [], ◌∷◌, ◌++◌, ◌==◌}
use Rattle.basics.specs.declared.refusal.Refusal.{Refusal}
use Rattle.basics.specs.declared.refusal.Refusal.TheVariants.{AmountOutOfBounds, OutOfRange}
use Rattle.basics.specs.Refusals.{code_of}
use Rattle.model.specs.Calls.{Operation, Call, begin, lock, release, access, withdraw, end, Answer, done, waiting, refused, Event}

-- who is granted node n where t asked for node m and was answered so
abbrev pub grant_of : ℕ → ℕ → Answer → ℕ → List ℕ
grant_of t m (done x) n = cond (m == n) (t ∷ []) []
grant_of t m (waiting u) n = []
grant_of t m (refused k) n = []

-- who is granted node n by a call that was answered so
abbrev pub grants_of : Call → Answer → ℕ → List ℕ
grants_of begin a n = []
grants_of (lock t m) a n = grant_of t m a n
grants_of (release t m) a n = []
grants_of (access t m op) a n = []
grants_of (withdraw t) a n = []
grants_of (end t) a n = []

-- who has locked node n, in the order of the calls
abbrev pub lockers_of : List Event → ℕ → List ℕ
lockers_of [] n = []
lockers_of (e ∷ h) n = grants_of e.call e.answer n ++ lockers_of h n

-- an operation of a transaction at a node, and what it was answered
pub record Access : Type 0 where
  pub by : ℕ
  pub node : ℕ
  pub operation : Operation
  pub answer : Answer

-- two refusals are one and the same
abbrev pub same_refusal : Refusal → Refusal → Bool
same_refusal k l = code_of k == code_of l

-- the operation itself is refused, and not its transaction or the use of its node
abbrev pub of_operation : Refusal → Bool
of_operation k = same_refusal k AmountOutOfBounds || same_refusal k OutOfRange

-- the access of a call that was answered so: it was done, or the operation itself was refused
abbrev pub access_of : ℕ → ℕ → Operation → Answer → List Access
access_of t n op (done x) = record { by = t; node = n; operation = op; answer = done x } ∷ []
access_of t n op (waiting u) = []
access_of t n op (refused k) = cond (of_operation k) (record { by = t; node = n; operation = op; answer = refused k } ∷ []) []

-- the access, if any, of whatever call
abbrev pub accessed : Call → Answer → List Access
accessed begin a = []
accessed (lock t n) a = []
accessed (release t n) a = []
accessed (access t n op) a = access_of t n op a
accessed (withdraw t) a = []
accessed (end t) a = []

-- all accesses, in the order of the calls
abbrev pub accesses : List Event → List Access
accesses [] = []
accesses (e ∷ h) = accessed e.call e.answer ++ accesses h
