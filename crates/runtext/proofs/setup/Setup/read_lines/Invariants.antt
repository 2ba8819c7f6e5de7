use Rattle.std.proofs.Common.{◌≡◌, ◌+◌, ◌≤◌, length, drop}
use Rattle.runtext_model.specs.Pieces.{pieces}
use Rattle.runtext_model.specs.Reading.{read_lines}
use Rattle.runtext.specs.Counting.{turn_count}
use Rattle.runtext.specs.Of.{description_of}
use Rattle.runtext.proofs.setup.Setup.read_lines.Given as goal

abbrev pub invariant-loop-piece : goal.invariant-loop-piece
invariant-loop-piece l =
    (read_lines (description_of l.self l.steps l.turns) l.line l.left.0.at (pieces 10 l.left.0.bytes.now)
    ≡ read_lines (description_of l.initial.self l.initial.steps l.initial.turns) 1 0 (pieces 10 l.text))
    × (drop l.self.steps l.steps ≡ drop l.self.steps l.initial.steps)
    × (drop (turn_count l.self.turns) l.turns ≡ drop (turn_count l.self.turns) l.initial.turns) × (l.line ≤ l.left.0.at + 1) × (l.left.0.at + length l.left.0.bytes.now ≤ 16384)

abbrev pub decreases-loop-piece : goal.decreases-loop-piece
decreases-loop-piece l = length l.left.0.bytes.now
