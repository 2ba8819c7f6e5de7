use Rattle.std.proofs.Common.{◌/◌, ◌^◌, eqb, ap, arith}
use lib.Bits.{and_mask}
use Rattle.std.proofs.lemmas.Bool.{le-ltb}
use Rattle.basics.proofs.Masks.{has_past}
use Rattle.basics.proofs.set.NumberSet.contains.Goals as goal

pub returns-then-n-WIDTH : goal.returns-then-n-WIDTH
returns-then-n-WIDTH g c =
    rw (← c.bits-bits.ensures.mask, ← c.number-n.ensures) (ap (λ x. eqb x 1) (and_mask (c.bits-bits.result / 2 ^ c.number-n.result) 1))

pub returns-else-n-WIDTH : goal.returns-else-n-WIDTH
returns-else-n-WIDTH g c =
    let past = has_past g.Self.NumberSet.WIDTH (g.Self.NumberSet.mask c.args.self) (g.Self.Number.Numbered.number c.args.n) (omega arith) (omega arith) in
    let no = le-ltb _ _ c.if-n-WIDTH.false in
    cc
