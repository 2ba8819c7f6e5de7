-- Where the scripts of a step buffer begin.
use Rattle.std.specs.Prelude.{◌≡◌, ◌≤◌, List, length}
use Rattle.scripts_model.specs.declared.step.Step.{Step}
use Rattle.scripts_model.specs.Buffer.{cursors_from}
use Rattle.scripts.specs.declared.cursors.Cursors.{Cursors}

-- f has a cursor at the first step of each script, and no more
pub record Finds (steps : List Step) (f : Cursors) : Type 0 where
  pub few : length f.places.items ≤ 32
  pub first : f.places.items ≡ cursors_from 0 steps
