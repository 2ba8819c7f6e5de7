-- Scripts in one step buffer, and runs that keep a cursor for each script.
use Rattle.std.specs.Prelude.{◌≡◌, ℕ, ◌+◌, List, [], ◌∷◌, map, length, drop, Some, None, Option, slice_index_or, slice_set}
use Rattle.model.specs.Calls.{read, write, adjust, Call, end, Answer, done, waiting, refused}
use Rattle.model.specs.State.{State}
use Rattle.model.specs.Checks.{answer}
use Rattle.model.specs.Step.{after}
use Rattle.scripts_model.specs.declared.step.Step.{Step}
use Rattle.scripts_model.specs.declared.step.Step.TheVariants.{End, Lock, Release, Read, Write, Adjust}
use Rattle.scripts_model.specs.Script.{Action, locks, releases, does, Script, going, finished, call_of, Scripted, turn}
use Rattle.scripts_model.specs.Finishes.{steps_of}

-- what an entry does; None where it is the end of a script
abbrev pub action_of : Step → Option Action
action_of End = None
action_of (Lock n) = Some (locks n.0)
action_of (Release n) = Some (releases n.0)
action_of (Read n) = Some (does n.0 read)
action_of (Write n v) = Some (does n.0 (write v))
action_of (Adjust n d) = Some (does n.0 (adjust d))

-- nothing at an end, else the action and those after it
abbrev pub then_actions : Option Action → List Action → List Action
then_actions None xs = []
then_actions (Some x) xs = x ∷ xs

-- the actions up to the next end
abbrev pub up_to_end : List Step → List Action
up_to_end [] = []
up_to_end (e ∷ es) = then_actions (action_of e) (up_to_end es)

-- an end begins a script with these actions; any other entry begins none
abbrev pub begins : Option Action → List Action → List (List Action) → List (List Action)
begins None xs scripts = xs ∷ scripts
begins (Some x) xs scripts = scripts

-- the scripts of a step buffer: each has its end first; what stands before any end is no script's
abbrev pub scripts_of : List Step → List (List Action)
scripts_of [] = []
scripts_of (e ∷ es) = begins (action_of e) (up_to_end es) (scripts_of es)

-- A cursor says how far a script is: Some i, at the place i of the step buffer, or None, done. An end puts one at the place i
-- behind it.
abbrev pub begins_at : Option Action → ℕ → List (Option ℕ) → List (Option ℕ)
begins_at None i cursors = Some i ∷ cursors
begins_at (Some x) i cursors = cursors

-- a cursor at the first action of each script, in a buffer whose first entry has the number i
abbrev pub cursors_from : ℕ → List Step → List (Option ℕ)
cursors_from i [] = []
cursors_from i (e ∷ es) = begins_at (action_of e) (i + 1) (cursors_from (i + 1) es)

-- the script that a cursor stands for
abbrev pub script_at : List Step → Option ℕ → Script
script_at es (Some i) = going (up_to_end (drop i es))
script_at es None = finished

-- the entry at a place; past the last one a script ends too
abbrev pub step_at : List Step → ℕ → Step
step_at es i = slice_index_or es i End

-- the call by t for an entry that does this
abbrev pub call_by : ℕ → Option Action → Call
call_by t None = end t
call_by t (Some x) = call_of t x

-- the cursor behind an entry at the place i; behind an end the script is done
abbrev pub cursor_moved : Option Action → ℕ → Option ℕ
cursor_moved None i = None
cursor_moved (Some x) i = Some (i + 1)

-- the cursor after the call of that entry was answered so
abbrev pub cursor_answered : Option Action → ℕ → Answer → Option ℕ
cursor_answered x i (done v) = cursor_moved x i
cursor_answered x i (waiting u) = Some i
cursor_answered x i (refused k) = cursor_moved x i

-- a session, and a cursor for each script
pub record Cursors : Type 0 where
  pub session : State
  pub cursors : List (Option ℕ)

-- a turn of script t, whose cursor is this
abbrev pub cursor_turn_by : List Step → Cursors → ℕ → Option ℕ → Cursors
cursor_turn_by es d t None = d
cursor_turn_by es d t (Some i) =
    let x = action_of (step_at es i) in
    let a = answer d.session (call_by t x) in
    record { session = after d.session (call_by t x) a; cursors = slice_set d.cursors t (cursor_answered x i a) }

-- a turn by cursors looks at the entry at the cursor, and at no other
abbrev pub cursor_turn : List Step → Cursors → ℕ → Cursors
cursor_turn es d t = cursor_turn_by es d t (slice_index_or d.cursors t None)

-- the scripts that these cursors stand for
abbrev pub scripted_by : List Step → Cursors → Scripted
scripted_by es d = record { session = d.session; scripts = map (script_at es) d.cursors }

-- turns by cursors are turns of the scripts, the first cursors stand for the scripts of the buffer, and these have all
-- entries but those before the first end
abbrev pub ByCursors : Type 0
ByCursors =
    ((es : List Step) (d : Cursors) (t : ℕ) → scripted_by es (cursor_turn es d t) ≡ turn (scripted_by es d) t)
    × ((es : List Step) → map (script_at es) (cursors_from 0 es) ≡ map going (scripts_of es))
    × ((es : List Step) → length (up_to_end es) + steps_of (scripts_of es) ≡ length es)
