use Rattle.std.proofs.Common.{arith}
use Rattle.image_model.specs.Image.{image_bit}
use Rattle.image_model.specs.ImageLaws.{number_lt}
use Rattle.images.proofs.field.Field.read.Goals as goal

pub signed-requires : goal.signed-requires
signed-requires c = omega (arith, c.read_bits.ensures, number_lt (image_bit c.args.image.now) c.args.self.start c.args.self.width.bits)
