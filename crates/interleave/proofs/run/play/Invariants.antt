use Rattle.std.proofs.Common.{◌-◌}
use Rattle.interleave.proofs.run.play.Given as goal

abbrev pub decreases-loop-turn : goal.decreases-loop-turn
decreases-loop-turn g l = l.run.allowance - l.run.taken
