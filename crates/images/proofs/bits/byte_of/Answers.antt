use Rattle.std.proofs.Common.{◌/◌, ◌^◌, arith}
use Rattle.std.proofs.lemmas.Bool.Decides.{nat_tests}
use Rattle.basics.proofs.Masks.{has_and, has_full, has_shr}
use Rattle.images.proofs.bits.byte_of.Goals as goal

pub returns : goal.returns
returns c = λ p.
    let a = has_and (c.args.whole / 2 ^ c.args.shift) 255 p in
    let f = has_full 8 p in
    let s = has_shr c.args.whole c.args.shift p in
    grind (arith, nat_tests)
