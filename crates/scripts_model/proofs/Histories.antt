-- A script run is explained at every turn.
use Rattle.std.proofs.Common.{◌≡◌, ℕ, List, [], ◌∷◌, ◌++◌, map, length, replicate, Some, None, Option, sym, refl, ap, ◌∙◌, append_assoc, append-nil}
use mathlib.Core.Path.{subst⁻¹}
use Rattle.model.specs.Calls.{Call, begin, Event}
use Rattle.model.specs.State.{State}
use Rattle.model.specs.Step.{Run, step, run, session}
use Rattle.model.specs.Explained.{RunExplained}
use Rattle.model.proofs.Explains.{every_session_explained}
use Rattle.scripts_model.specs.Script.{Script, going, finished, Scripted, script, turn_by}
use Rattle.scripts_model.specs.Schedule.{RunState, whose, by_turn, Move, next, alone, by_move, made, first_run}
use Rattle.scripts_model.specs.History.{turn_event, event_by, move_events, events, history, EveryRunExplained}

-- the calls of some events
abbrev calls_of : List Event → List Call
calls_of es = map (λ e. e.call) es

-- after the log h
abbrev at : State → List Event → Run
at s h = record { state = s; log = h }

-- to run the calls of the events es from s after the log h leads to s', and adds es to the log
abbrev Leads : State → List Event → State → Type 0
Leads s es s' = (h : List Event) → run (at s h) (calls_of es) ≡ at s' (h ++ es)

leads_nothing : (s : State) → Leads s [] s
leads_nothing s h = ap (at s) (sym (append-nil h))

leads_on : (s s' s'' : State) (es fs : List Event) → Leads s es s' → Leads s' fs s'' → Leads s (es ++ fs) s''
leads_on s s' s'' es fs a b h =
    run_append (at s h) es fs ∙ ap (λ r. run r (calls_of fs)) (a h) ∙ b (h ++ es) ∙ ap (at s'') (append_assoc h es fs)
  where
    run_append : (r : Run) (es fs : List Event) → run r (calls_of (es ++ fs)) ≡ run (run r (calls_of es)) (calls_of fs)
    run_append r [] fs = refl
    run_append r (e ∷ es) fs = run_append (step r e.call) es fs

turn_leads : (d : Scripted) (t : ℕ) (x : Script) → Leads d.session (turn_event d t x) (turn_by d t x).session
turn_leads d t finished = leads_nothing d.session
turn_leads d t (going xs) = λ h. refl

by_turn_leads : (r : RunState) (o : Option ℕ) → Leads r.scripted.session (event_by r.scripted o) (by_turn r o).scripted.session
by_turn_leads r None = leads_nothing r.scripted.session
by_turn_leads r (Some t) = turn_leads r.scripted t (script r.scripted t)

move_leads : (r : RunState) (m : Move) → Leads r.scripted.session (move_events r m) (by_move r m).scripted.session
move_leads r next = by_turn_leads r (whose r.list r.scripted.scripts r.place)
move_leads r (alone t) = turn_leads r.scripted t (script r.scripted t)

made_leads : (ms : List Move) (r : RunState) → Leads r.scripted.session (events ms r) (made ms r).scripted.session
made_leads [] r = leads_nothing r.scripted.session
made_leads (m ∷ ms) r =
    leads_on r.scripted.session (by_move r m).scripted.session (made ms (by_move r m)).scripted.session (move_events r m) (events ms (by_move r m))
    (move_leads r m) (made_leads ms (by_move r m))

run_all : (r : Run) (cs ds : List Call) → run r (cs ++ ds) ≡ run (run r cs) ds
run_all r [] ds = refl
run_all r (c ∷ cs) ds = run_all (step r c) cs ds

pub every_run_explained : EveryRunExplained
every_run_explained rule store scripts list moves =
    let first = first_run rule store scripts list in
    let es = events moves first in
    let begins = replicate (length scripts) begin in
    let e : history rule store (length scripts) moves first ≡ session rule store (begins ++ calls_of es) =
    sym (run_all _ begins (calls_of es) ∙ made_leads moves first (session rule store begins).log) in
    (e, subst⁻¹ (RunExplained store) e (every_session_explained rule store (begins ++ calls_of es)))
