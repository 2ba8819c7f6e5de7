use Rattle.std.proofs.Common.{◌≡◌, ◌≤◌, ◌++◌, length, drop}
use Rattle.scripts_model.specs.Buffer.{cursors_from}
use Rattle.scripts.proofs.find.find.Given as goal

-- the cursors found so far, and those to come
abbrev pub invariant-loop-i : goal.invariant-loop-i
invariant-loop-i l = record { found : cursors_from 0 l.steps ≡ l.places.items ++ cursors_from l.i (drop l.i l.steps); few : length l.places.items ≤ 32 }
