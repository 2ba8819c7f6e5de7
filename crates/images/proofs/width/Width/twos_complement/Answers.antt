use Rattle.std.proofs.Common.{◌≡◌, false, pos, nat_abs, sym, ap, ◌∙◌, arith, w32}
use lib.Signed.{le_z}
use Rattle.std.proofs.lemmas.Nat.{one_shl}
use Rattle.std.proofs.lemmas.Int.{to_z-of_z}
use Rattle.image_model.proofs.Complement.{negative_small}
use Rattle.images.proofs.width.Width.twos_complement.Goals as goal

pub overflow_sub-result : goal.overflow_sub-result
overflow_sub-result c =
    let same = to_z-of_z w32 c.args.v c.ranges.v in
    let negative : le_z (pos 0) c.args.v ≡ false = ap (le_z (pos 0)) (sym same) ∙ c.if-v-ge0.false in
    let abs : c.unsigned_abs-else-v-ge0.result ≡ nat_abs c.args.v = c.unsigned_abs-else-v-ge0.ensures.value ∙ ap nat_abs same in
    omega (arith, abs, one_shl c.args.self.bits 32 (omega arith), negative_small c.args.self.bits c.args.v c.args.self.wide negative c.requires)
