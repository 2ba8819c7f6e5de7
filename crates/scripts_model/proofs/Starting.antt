-- A start is refused by the first limit that is passed; and what holds of every run holds of one that has started.
use Rattle.std.proofs.Common.{◌≡◌, ℕ, ◌<◌, ◌≤◌, true, false, List, length, Some, None}
use mathlib.Core.Path.{subst⁻¹}
use Rattle.std.proofs.lemmas.Bool.{lt-ltb, le-ltb}
use Rattle.basics.specs.declared.refusal.Refusal.TheVariants.{LimitExceeded}
use Rattle.rules.specs.Rule.{Rule}
use Rattle.stores.specs.Store.{Store}
use Rattle.model.specs.Explained.{RunExplained}
use Rattle.scripts_model.specs.Script.{Action}
use Rattle.scripts_model.specs.Schedule.{RunState, made, played, first_run}
use Rattle.scripts_model.specs.Finishes.{steps_of, enough, Finished}
use Rattle.scripts_model.specs.History.{history}
use Rattle.scripts_model.specs.Limits.{all_below, start_refusal}
use Rattle.scripts_model.specs.Started.{Started}
use Rattle.scripts_model.proofs.Histories.{every_run_explained}
use Rattle.scripts_model.proofs.Runs.{every_run_finishes, finishes_in_time}

module _ (allowance : ℕ) (scripts : List (List Action)) (list : List ℕ) (h : allowance ≤ 40000) (a : length scripts ≤ 32) where
  abbrev Refused : Type 0
  Refused = start_refusal allowance scripts list ≡ Some LimitExceeded

  pub many_steps : 1024 < steps_of scripts → Refused
  many_steps b = rw (le-ltb 40000 allowance h, le-ltb 32 (length scripts) a, lt-ltb 1024 (steps_of scripts) b)

  module _ (b : steps_of scripts ≤ 1024) where
    pub many_turns : 4096 < length list → Refused
    many_turns d = rw (le-ltb 40000 allowance h, le-ltb 32 (length scripts) a, le-ltb 1024 (steps_of scripts) b, lt-ltb 4096 (length list) d)

    pub beyond : length list ≤ 4096 → all_below (length scripts) list ≡ false → Refused
    beyond d e = rw (le-ltb 40000 allowance h, le-ltb 32 (length scripts) a, le-ltb 1024 (steps_of scripts) b, le-ltb 4096 (length list) d, e)

    pub within_limits : length list ≤ 4096 → all_below (length scripts) list ≡ true → start_refusal allowance scripts list ≡ None
    within_limits d e = rw (le-ltb 40000 allowance h, le-ltb 32 (length scripts) a, le-ltb 1024 (steps_of scripts) b, le-ltb 4096 (length list) d, e)

pub started : (rule : Rule) (store : Store) (scripts : List (List Action)) (list : List ℕ) (allowance : ℕ) (r : RunState)
    → length scripts ≤ 32 → start_refusal allowance scripts list ≡ None → r ≡ first_run rule store scripts list → Started rule store scripts list allowance r
started rule store scripts list allowance r few e q = record {
  allowed = e;
  first = q;
  finishes = λ h. subst⁻¹ (λ (r : RunState). Finished (enough scripts list) (played allowance r)) q (finishes_in_time rule store scripts list allowance few h);
  finishes_among = λ moves h. subst⁻¹ (λ (r : RunState). Finished (enough scripts list) (made moves r)) q (every_run_finishes rule store scripts list moves few h);
  explained = λ moves. subst⁻¹ (λ (r : RunState). RunExplained store (history rule store (length scripts) moves r)) q (every_run_explained rule store scripts list moves).1;
}
