-- Lines worked out, those of the order and the values for the session that the model works out.
use Rattle.std.specs.Prelude.{◌≡◌, ℕ, true, false, List, [], ◌∷◌, ◌++◌, pos, negsuc, Some, None, Ok, Err, codes}
use Rattle.basics.specs.declared.refusal.Refusal.TheVariants.{MalformedLine, RuleDenies}
use Rattle.model.specs.Example.{tree, page, calls}
use Rattle.model.specs.State.{start, transaction}
use Rattle.model.specs.Step.{session}
use Rattle.session.specs.declared.answer.Reply.TheVariants.{Done, Waiting}
use Rattle.runlines.specs.Lines.{turn_line, order_line, values_line, totals_line, fault_line}

-- the bytes are this text and a line feed
abbrev pub Reads : List ℕ → List ℕ → Type 0
Reads bytes words = bytes ≡ words ++ (10 ∷ [])

abbrev pub TurnLines : Type 0
TurnLines =
    Reads (turn_line 1 (Some (Ok (Done (pos 0))))) (codes "1 0 0")
    × Reads (turn_line 0 (Some (Ok (Waiting (transaction 1))))) (codes "0 w 1")
    × Reads (turn_line 2 (Some (Err RuleDenies))) (codes "2 18 0")
    × Reads (turn_line 0 (Some (Ok (Done (negsuc 4))))) (codes "0 0 -5")
    × Reads (turn_line 31 (Some (Ok (Done (negsuc 2147483647))))) (codes "31 0 -2147483648")
    × Reads (turn_line 3 None) (codes "3 d 0")

abbrev pub ListLines : Type 0
ListLines =
    Reads (order_line (session tree page calls).state) (codes "O 1 0")
    × Reads (order_line (start tree page)) (codes "O")
    × Reads (values_line (session tree page calls).state.store) (codes "V 0 1 50")
    × Reads (values_line (record { count = 0; values = λ n. pos 0; low = λ n. pos 0; high = λ n. pos 0 })) (codes "V")

abbrev pub LastLines : Type 0
LastLines =
    Reads (totals_line 17 true) (codes "T 17 1")
    × Reads (totals_line 0 false) (codes "T 0 0")
    × Reads (fault_line MalformedLine 12) (codes "F 4 12")
