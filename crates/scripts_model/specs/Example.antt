-- A run worked out: two scripts that both write node 2, and a turn list that lets the second one go first.
use Rattle.std.specs.Prelude.{◌≡◌, true, [], ◌∷◌, pos}
use Rattle.model.specs.Calls.{write}
use Rattle.model.specs.Order.{serial_order}
use Rattle.model.specs.Example.{tree, page}
use Rattle.scripts_model.specs.Script.{locks, releases, does}
use Rattle.scripts_model.specs.Schedule.{RunState, all_finished, script_run}

abbrev pub run_of_two : RunState
run_of_two =
    script_run tree page
    ((locks 0 ∷ locks 2 ∷ releases 0 ∷ does 2 (write (pos 50)) ∷ []) ∷ (locks 0 ∷ locks 2 ∷ does 2 (write (pos 20)) ∷ []) ∷ [])
    (1 ∷ 0 ∷ 1 ∷ 1 ∷ []) 40

-- it takes 11 turns, its serial order is 1, 0, and node 2 ends with 50
abbrev pub Example : Type 0
Example =
    (run_of_two.turns ≡ 11) × (all_finished run_of_two.scripted.scripts ≡ true)
    × (serial_order run_of_two.scripted.session ≡ 1 ∷ 0 ∷ []) × (run_of_two.scripted.session.store.values 2 ≡ pos 50)
