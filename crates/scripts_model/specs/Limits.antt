-- What a run may not begin with.
use Rattle.std.specs.Prelude.{ℕ, Bool, true, not, ◌&&◌, List, [], ◌∷◌, map, length, Option, nat_lt}
use Rattle.basics.specs.declared.refusal.Refusal.{Refusal}
use Rattle.basics.specs.declared.refusal.Refusal.TheVariants.{AllowanceTooLarge, LimitExceeded}
use Rattle.basics.specs.declared.transaction.TransactionNumber.{TransactionNumber}
use Rattle.model.specs.Calls.{first_refusal}
use Rattle.scripts_model.specs.Script.{Action}
use Rattle.scripts_model.specs.Finishes.{steps_of}

-- the numbers of a turn list
abbrev pub numbers : List TransactionNumber → List ℕ
numbers turns = map (λ t. t.0) turns

-- each turn is of a script below the limit
abbrev pub all_below : ℕ → List ℕ → Bool
all_below limit [] = true
all_below limit (t ∷ list) = nat_lt t limit && all_below limit list

-- the checks of a start, in the order of looking
abbrev pub start_checks : ℕ → List (List Action) → List ℕ → List (Bool × Refusal)
start_checks allowance scripts list =
    (nat_lt 40000 allowance, AllowanceTooLarge)
    ∷ (nat_lt 32 (length scripts), LimitExceeded)
    ∷ (nat_lt 1024 (steps_of scripts), LimitExceeded)
    ∷ (nat_lt 4096 (length list), LimitExceeded)
    ∷ (not (all_below (length scripts) list), LimitExceeded) ∷ []

-- why a run does not start, if it does not
abbrev pub start_refusal : ℕ → List (List Action) → List ℕ → Option Refusal
start_refusal allowance scripts list = first_refusal (start_checks allowance scripts list)
