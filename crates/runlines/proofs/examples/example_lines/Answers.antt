use Rattle.std.proofs.Common.{refl}
use Rattle.std.specs.Fmt.{digits}
use Rattle.runlines.proofs.examples.example_lines.Goals as goal

pub returns : goal.returns
unfolding digits
returns c = record { turns = (refl, refl, refl, refl, refl, refl); lists = (refl, refl, refl, refl); last = (refl, refl, refl) }
