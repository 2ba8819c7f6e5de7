-- What a run calls and is answered, turn by turn.
use Rattle.std.specs.Prelude.{◌≡◌, ℕ, List, [], ◌∷◌, ◌++◌, map, length, replicate, Some, None, Option}
use Rattle.rules.specs.Rule.{Rule}
use Rattle.stores.specs.Store.{Store}
use Rattle.model.specs.Calls.{begin, Event}
use Rattle.model.specs.Checks.{answer}
use Rattle.model.specs.Step.{Run, session}
use Rattle.model.specs.Explained.{RunExplained}
use Rattle.scripts_model.specs.Script.{Action, Script, going, finished, next_call, Scripted, script}
use Rattle.scripts_model.specs.Schedule.{RunState, whose, Move, next, alone, by_move, made, first_run}

-- the event of a turn of script t, given how far it is: its next call and the answer; none where it is finished
abbrev pub turn_event : Scripted → ℕ → Script → List Event
turn_event d t finished = []
turn_event d t (going xs) = record { call = next_call t xs; answer = answer d.session (next_call t xs) } ∷ []

-- the event of the turn of a script, if it is any script's turn
abbrev pub event_by : Scripted → Option ℕ → List Event
event_by d None = []
event_by d (Some t) = turn_event d t (script d t)

-- the events of a move
abbrev pub move_events : RunState → Move → List Event
move_events r next = event_by r.scripted (whose r.list r.scripted.scripts r.place)
move_events r (alone t) = event_by r.scripted (Some t)

-- the events of these moves
abbrev pub events : List Move → RunState → List Event
events [] r = []
events (m ∷ ms) r = move_events r m ++ events ms (by_move r m)

-- the session of k scripts that are begun
abbrev pub begun_session : Rule → Store → ℕ → Run
begun_session rule store k = session rule store (replicate k begin)

-- a run's session after these moves, with all that was called and answered: first the scripts were begun, then came the moves
abbrev pub history : Rule → Store → ℕ → List Move → RunState → Run
history rule store scripts moves first = record {
  state = (made moves first).scripted.session;
  log = (begun_session rule store scripts).log ++ events moves first;
}

-- the same calls, made to a new session, give the same answers and the same session, which is explained by its serial order
abbrev pub EveryRunExplained : Type 0
EveryRunExplained =
    (rule : Rule) (store : Store) (scripts : List (List Action)) (list : List ℕ) (moves : List Move)
    → let first = first_run rule store scripts list in
    let h = history rule store (length scripts) moves first in
    (h ≡ session rule store (replicate (length scripts) begin ++ map (λ e. e.call) (events moves first))) × RunExplained store h
