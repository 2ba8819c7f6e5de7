-- Whose turn it is, and the whole run.
use Rattle.std.specs.Prelude.{ℕ, ◌+◌, Bool, true, false, not, ◌&&◌, List, [], ◌∷◌, map, length, replicate, Some, None, Option, nat_le, slice_index_or}
use Rattle.rules.specs.Rule.{Rule}
use Rattle.stores.specs.Store.{Store}
use Rattle.model.specs.Calls.{begin, or_else}
use Rattle.model.specs.Order.{lowest}
use Rattle.model.specs.Step.{session}
use Rattle.scripts_model.specs.Script.{Action, Script, going, finished, Scripted, turn}

-- it is done
abbrev pub is_finished : Script → Bool
is_finished (going xs) = false
is_finished finished = true

-- script t is there, and not done
abbrev pub unfinished : List Script → ℕ → Bool
unfinished scripts t = not (is_finished (slice_index_or scripts t finished))

-- all are done
abbrev pub all_finished : List Script → Bool
all_finished [] = true
all_finished (x ∷ xs) = is_finished x && all_finished xs

-- a run at some turn
pub record RunState : Type 0 where
  -- its session and its scripts
  pub scripted : Scripted
  -- what is left of the turn list
  pub list : List ℕ
  -- where the round goes on
  pub place : ℕ
  -- how many turns were taken
  pub turns : ℕ

-- the lowest unfinished script from the place on
abbrev pub from_on : List Script → ℕ → Option ℕ
from_on scripts place = lowest (λ t. nat_le place t && unfinished scripts t) (length scripts)

-- whose turn it is in a round: the next from the place on; where there is none, a new round begins
abbrev pub in_round : List Script → ℕ → Option ℕ
in_round scripts place = or_else (from_on scripts place) (from_on scripts 0)

-- whose turn it is: first those of the list, then by rounds; None where the list is used and all are done
abbrev pub whose : List ℕ → List Script → ℕ → Option ℕ
whose [] scripts place = in_round scripts place
whose (t ∷ list) scripts place = Some t

-- a turn of the list shortens the list
abbrev pub list_after : List ℕ → List ℕ
list_after [] = []
list_after (t ∷ list) = list

-- after a turn of t in a round, the round goes on behind t
abbrev pub place_after : List ℕ → ℕ → ℕ → ℕ
place_after [] t place = t + 1
place_after (x ∷ list) t place = place

-- the run after a turn of script t
abbrev pub with_turn : RunState → ℕ → RunState
with_turn r t = record {
  scripted = turn r.scripted t;
  list = list_after r.list;
  place = place_after r.list t r.place;
  turns = r.turns + 1;
}

-- the run after the turn of a script, if it is any script's turn
abbrev pub by_turn : RunState → Option ℕ → RunState
by_turn r None = r
by_turn r (Some t) = with_turn r t

-- the run after the next turn, if there is one
abbrev pub advance : RunState → RunState
advance r = by_turn r (whose r.list r.scripted.scripts r.place)

-- the run after a turn of script t by itself: what is left of the list, the round and the count stay
abbrev pub turned_alone : RunState → ℕ → RunState
turned_alone r t = record { scripted = turn r.scripted t; list = r.list; place = r.place; turns = r.turns }

-- the next turn, or a turn of script t by itself
pub data Move : Type 0 where
  next : Move
  alone : (t : ℕ) → Move

-- the run after a move
abbrev pub by_move : RunState → Move → RunState
by_move r next = advance r
by_move r (alone t) = turned_alone r t

-- the run after these moves
abbrev pub made : List Move → RunState → RunState
made [] r = r
made (m ∷ ms) r = made ms (by_move r m)

-- the run goes on for as many turns, unless it stops before
abbrev pub played : ℕ → RunState → RunState
played k r = made (replicate k next) r

-- before the first turn: a new session in which each script is begun
abbrev pub first_run : Rule → Store → List (List Action) → List ℕ → RunState
first_run rule store scripts list = record {
  scripted = record { session = (session rule store (replicate (length scripts) begin)).state; scripts = map going scripts };
  list = list;
  place = 0;
  turns = 0;
}

-- the run of these scripts
abbrev pub script_run : Rule → Store → List (List Action) → List ℕ → ℕ → RunState
script_run rule store scripts list allowance = played allowance (first_run rule store scripts list)
