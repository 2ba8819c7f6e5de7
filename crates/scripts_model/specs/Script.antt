-- Scripts, and one turn of a script.
use Rattle.std.specs.Prelude.{ℕ, List, [], ◌∷◌, Some, None, Option, slice_index_or, slice_set}
use Rattle.model.specs.Calls.{Operation, Call, lock, release, access, end, Answer, done, waiting, refused}
use Rattle.model.specs.State.{State}
use Rattle.model.specs.Checks.{answer}
use Rattle.model.specs.Step.{after}

-- what a step of a script does at the node n: it locks it, releases it or accesses it
pub data Action : Type 0 where
  locks : (n : ℕ) → Action
  releases : (n : ℕ) → Action
  does : (n : ℕ) → Operation → Action

-- how far a script is: these actions are left, and then its end; or it is done
pub data Script : Type 0 where
  going : List Action → Script
  finished : Script

-- the action, as a call by the transaction t
abbrev pub call_of : ℕ → Action → Call
call_of t (locks n) = lock t n
call_of t (releases n) = release t n
call_of t (does n op) = access t n op

-- the next call of script t, which has these actions left
abbrev pub next_call : ℕ → List Action → Call
next_call t [] = end t
next_call t (x ∷ xs) = call_of t x

-- the script after its next action; after its end it is done
abbrev pub moved : List Action → Script
moved [] = finished
moved (x ∷ xs) = going xs

-- the script after the answer to its next call: a waiting answer leaves the action for another try, every other moves on
abbrev pub answered : List Action → Answer → Script
answered xs (done v) = moved xs
answered xs (waiting u) = going xs
answered xs (refused k) = moved xs

-- a session, and how far each of its scripts is; script t is the transaction t
pub record Scripted : Type 0 where
  pub session : State
  pub scripts : List Script

-- how far script t is; where there is none, it is finished
abbrev pub script : Scripted → ℕ → Script
script d t = slice_index_or d.scripts t finished

-- a turn of script t, given how far it is
abbrev pub turn_by : Scripted → ℕ → Script → Scripted
turn_by d t finished = d
turn_by d t (going xs) =
    let c = next_call t xs in
    let a = answer d.session c in
    record { session = after d.session c a; scripts = slice_set d.scripts t (answered xs a) }

-- a turn of script t: its next call, or nothing where it is finished
abbrev pub turn : Scripted → ℕ → Scripted
turn d t = turn_by d t (script d t)

-- what a turn of script t is answered, given how far it is
abbrev pub answer_by : Scripted → ℕ → Script → Option Answer
answer_by d t finished = None
answer_by d t (going xs) = Some (answer d.session (next_call t xs))

-- what a turn of script t is answered; None where it is finished
abbrev pub turn_answer : Scripted → ℕ → Option Answer
turn_answer d t = answer_by d t (script d t)
