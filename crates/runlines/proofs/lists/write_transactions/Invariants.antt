use Rattle.std.proofs.Common.{◌≡◌, ◌+◌, ◌*◌, ◌≤◌, ◌++◌, map, length, take, codes, decimal}
use Rattle.std.specs.List.{flat_map}
use Rattle.runlines.specs.Lines.{spaced}
use Rattle.runlines.specs.Text.{text}
use Rattle.runlines.proofs.lists.write_transactions.Given as goal

abbrev pub invariant-loop-t : goal.invariant-loop-t
invariant-loop-t l =
    (text l.line ≡ codes "O" ++ flat_map spaced (map decimal (take l.t-index l.order)))
    × (length (text l.line) ≤ 11 + 12 * l.t-index)
