use Rattle.basics.proofs.Masks.{within_members}
use Rattle.basics.proofs.set.NumberSet.is_subset.Goals as goal

pub returns-clause-members : goal.returns-clause-members
returns-clause-members g c =
    rw (c.bits.ensures.mask, c.bits-2.ensures.mask, c.bits-3.ensures.mask) (within_members (g.Self.NumberSet.mask c.args.self) (g.Self.NumberSet.mask c.args.other))
