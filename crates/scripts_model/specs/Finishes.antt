-- A run comes to its end.
use Rattle.std.specs.Prelude.{◌≡◌, ℕ, ◌+◌, ◌*◌, ◌<◌, ◌≤◌, true, List, [], ◌∷◌, length}
use Rattle.model.specs.declared.table.Phase.TheVariants.{Ended}
use Rattle.rules.specs.Rule.{Rule}
use Rattle.stores.specs.Store.{Store}
use Rattle.model.specs.State.{phase}
use Rattle.scripts_model.specs.Script.{Action}
use Rattle.scripts_model.specs.Schedule.{RunState, all_finished, Move, next, alone, made, first_run, script_run}

-- how many steps the scripts have, their ends included
abbrev pub steps_of : List (List Action) → ℕ
steps_of [] = 0
steps_of (x ∷ xs) = length x + 1 + steps_of xs

-- the turns that suffice: those of the list, and a round for each step
abbrev pub enough : List (List Action) → List ℕ → ℕ
enough scripts list = length list + steps_of scripts * length scripts

-- the run r came to its end, after at most so many turns
pub record Finished (most : ℕ) (r : RunState) : Type 0 where
  pub used : r.list ≡ []
  pub all : all_finished r.scripted.scripts ≡ true
  pub few : r.turns ≤ most
  -- every transaction of its session is ended
  pub ended : (t : ℕ) → t < r.scripted.session.begun → phase r.scripted.session t ≡ Ended

-- how many of the moves are scheduled turns
abbrev pub scheduled_in : List Move → ℕ
scheduled_in [] = 0
scheduled_in (next ∷ ms) = scheduled_in ms + 1
scheduled_in (alone t ∷ ms) = scheduled_in ms

-- whatever the rule, the store, the scripts and the turn list, and whatever turns are taken between those that are scheduled
abbrev pub EveryRunFinishes : Type 0
EveryRunFinishes =
    (rule : Rule) (store : Store) (scripts : List (List Action)) (list : List ℕ) (moves : List Move)
    → length scripts ≤ 32 → enough scripts list ≤ scheduled_in moves
    → Finished (enough scripts list) (made moves (first_run rule store scripts list))

-- 32 scripts with 1,024 steps and a turn list of 4,096 need no more than 40,000 turns
abbrev pub AllowanceSuffices : Type 0
AllowanceSuffices =
    (rule : Rule) (store : Store) (scripts : List (List Action)) (list : List ℕ)
    → length scripts ≤ 32 → steps_of scripts ≤ 1024 → length list ≤ 4096
    → Finished 40000 (script_run rule store scripts list 40000)

-- a run stops when its allowance is used up, and before that only when the list is used and all are done
abbrev pub EveryRunStops : Type 0
EveryRunStops =
    (rule : Rule) (store : Store) (scripts : List (List Action)) (list : List ℕ) (allowance : ℕ)
    → let r = script_run rule store scripts list allowance in
    (r.turns ≤ allowance) × (r.turns < allowance → (r.list ≡ []) × (all_finished r.scripted.scripts ≡ true))
