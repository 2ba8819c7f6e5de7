-- What a script run, its turns and its totals mean.
use Rattle.std.specs.Prelude.{ℕ, ◌+◌, cond, List, length, Some, None, Ok, Err, Option, Result, nat_le, nat_lt}
use Rattle.basics.specs.declared.refusal.Refusal.{Refusal}
use Rattle.basics.specs.declared.refusal.Refusal.TheVariants.{LimitExceeded}
use Rattle.basics.specs.declared.transaction.TransactionNumber.{TransactionNumber}
use Rattle.rules.specs.Rule.{Rule}
use Rattle.stores.specs.Store.{Store}
use Rattle.model.specs.Calls as calls
use Rattle.session.specs.declared.answer.Reply.{Reply}
use Rattle.session.specs.Of.{model_of, answer_of}
use Rattle.scripts_model.specs.Script.{Script, Scripted, turn, turn_answer}
use Rattle.scripts_model.specs.Schedule.{RunState, whose, all_finished}
use Rattle.scripts_model.specs.Buffer.{scripted_by}
use Rattle.scripts_model.specs.Limits.{numbers}
use Rattle.scripts.specs.declared.report.Turn.{Turn}
use Rattle.scripts.specs.declared.report.Totals.{Totals}
use Rattle.scripts.specs.declared.state.ScriptRun.{ScriptRun}

-- the session and the scripts of a run
abbrev pub scripted_of : {R S : Type 0} → (R → Rule) → (S → Store) → ScriptRun R S → Scripted
scripted_of rule store r =
    scripted_by r.steps.now (record { session = model_of rule store r.session; cursors = r.cursors.places.items })

-- the run that the fields stand for
abbrev pub run_of : {R S : Type 0} → (R → Rule) → (S → Store) → ScriptRun R S → RunState
run_of rule store r = record {
  scripted = scripted_of rule store r;
  list = numbers r.turns.now;
  place = r.place;
  turns = r.taken;
}

-- an answer in the model's words, where there is one
abbrev pub answer_or_none : Option (Result Reply Refusal) → Option calls.Answer
answer_or_none None = None
answer_or_none (Some a) = Some (answer_of a)

-- the number of a script, where there is one
abbrev pub number_or_none : Option TransactionNumber → Option ℕ
number_or_none None = None
number_or_none (Some t) = Some t.0

-- whose turn is next, where the allowance has a turn left
abbrev pub scheduled : ℕ → RunState → Option ℕ
scheduled allowance r = cond (nat_lt r.turns allowance) (whose r.list r.scripted.scripts r.place) None

-- a turn of script t, and what it is answered
abbrev pub told : Scripted → Option ℕ → Option (ℕ × Option calls.Answer)
told d None = None
told d (Some t) = Some (t, turn_answer d t)

-- a turn in the model's words
abbrev pub turn_of : Option Turn → Option (ℕ × Option calls.Answer)
turn_of None = None
turn_of (Some x) = Some (x.script.0, answer_or_none x.answer)

-- the run after a turn of script t that counts
abbrev pub turn_counted : RunState → ℕ → RunState
turn_counted r t = record { scripted = turn r.scripted t; list = r.list; place = r.place; turns = r.turns + 1 }

-- there is no script t
abbrev pub turn_refusal : Scripted → ℕ → Option Refusal
turn_refusal d t = cond (nat_le (length d.scripts) t) (Some LimitExceeded) None

-- what a turn by itself answers, in the model's words
abbrev pub result_of : Result (Option (Result Reply Refusal)) Refusal → Result (Option calls.Answer) Refusal
result_of (Ok a) = Ok (answer_or_none a)
result_of (Err e) = Err e

-- the totals after so many turns, given how far the scripts are
abbrev pub totals_after : ℕ → List Script → Totals
totals_after turns scripts = record { turns = turns; all_done = all_finished scripts }

-- the totals of a run
abbrev pub totals_of : RunState → Totals
totals_of r = totals_after r.turns r.scripted.scripts
