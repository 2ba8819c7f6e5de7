use Rattle.basics.proofs.Masks.{same_members}
use Rattle.basics.proofs.set.NumberSet.same_members.Goals as goal

pub returns : goal.returns
returns g c =
    let mask = g.Self.NumberSet.mask in
    record {
      equal = c.eq.ensures;
      members = rw (c.eq.ensures, g.met.Self.NumberSet.equal c.args.self c.args.other) (same_members (mask c.args.self) (mask c.args.other));
    }
