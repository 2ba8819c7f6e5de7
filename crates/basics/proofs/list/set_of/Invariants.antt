use Rattle.std.proofs.Common.{◌≡◌, drop}
use Rattle.basics.specs.Lists.{gathered}
use Rattle.basics.proofs.list.set_of.Given as goal

abbrev pub invariant-loop-n : goal.invariant-loop-n
invariant-loop-n l = gathered 0 l.nodes ≡ gathered l.set.mask (drop l.n-index l.nodes)
