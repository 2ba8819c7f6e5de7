-- What holds of a run that has started.
use Rattle.std.specs.Prelude.{◌≡◌, ℕ, ◌≤◌, List, length, replicate, None}
use Rattle.rules.specs.Rule.{Rule}
use Rattle.stores.specs.Store.{Store}
use Rattle.model.specs.State.{State}
use Rattle.model.specs.Explained.{RunExplained}
use Rattle.scripts_model.specs.Script.{Action}
use Rattle.scripts_model.specs.Schedule.{RunState, Move, next, made, played, first_run, script_run}
use Rattle.scripts_model.specs.Finishes.{enough, Finished, scheduled_in}
use Rattle.scripts_model.specs.History.{history}
use Rattle.scripts_model.specs.Limits.{start_refusal}

-- r is the run of these scripts before its first turn
pub record Started (rule : Rule) (store : Store) (scripts : List (List Action)) (list : List ℕ) (allowance : ℕ) (r : RunState) : Type 0 where
  pub allowed : start_refusal allowance scripts list ≡ None
  pub first : r ≡ first_run rule store scripts list
  -- with allowance enough it comes to its end
  pub finishes : enough scripts list ≤ allowance → Finished (enough scripts list) (played allowance r)
  -- and so it does after as many scheduled turns, whatever turns are taken between them
  pub finishes_among : (moves : List Move) → enough scripts list ≤ scheduled_in moves → Finished (enough scripts list) (made moves r)
  -- after all moves its session is explained by the serial order, replayed from the store at the start
  pub explained : (moves : List Move) → RunExplained store (history rule store (length scripts) moves r)

-- s is the session of the run of these scripts at its stop
pub record Stopped (rule : Rule) (store : Store) (scripts : List (List Action)) (list : List ℕ) (allowance : ℕ) (s : State) : Type 0 where
  pub allowed : start_refusal allowance scripts list ≡ None
  pub last : s ≡ (script_run rule store scripts list allowance).scripted.session
  -- with allowance enough it came to its end, and every transaction is ended
  pub finished : enough scripts list ≤ allowance → Finished (enough scripts list) (script_run rule store scripts list allowance)
  -- it is explained by its serial order, replayed from the store at the start
  pub explained : RunExplained store (history rule store (length scripts) (replicate allowance next) (first_run rule store scripts list))
