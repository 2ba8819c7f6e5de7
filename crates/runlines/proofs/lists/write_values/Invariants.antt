use Rattle.std.proofs.Common.{◌≡◌, ◌+◌, ◌*◌, ◌≤◌, ◌++◌, map, length, codes}
use Rattle.std.specs.List.{range_with_len, flat_map}
use Rattle.std.specs.Fmt.{signed_decimal}
use Rattle.runlines.specs.Lines.{spaced}
use Rattle.runlines.specs.Text.{text}
use Rattle.runlines.proofs.lists.write_values.Given as goal

-- a value of 16 bits has at most six bytes, and a space before it
abbrev pub invariant-loop-n : goal.invariant-loop-n
invariant-loop-n g l =
    (text l.line ≡ codes "V" ++ flat_map spaced (map (λ k. signed_decimal ((g.S.NodeStore.store l.store).values k)) (range_with_len 0 l.n)))
    × (length (text l.line) ≤ 11 + 7 * l.n)
