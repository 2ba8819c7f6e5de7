use Rattle.basics.proofs.Masks.{empty_members}
use Rattle.basics.proofs.set.NumberSet.is_empty.Goals as goal

pub returns-clause-members : goal.returns-clause-members
returns-clause-members g c = rw c.bits.ensures.mask (empty_members (g.Self.NumberSet.mask c.args.self))
