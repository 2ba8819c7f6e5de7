use Rattle.std.proofs.Common.{arith}
use Rattle.plans.specs.Meaning.{nodes_of}
use Rattle.image_model.proofs.Places.{field_inside}
use Rattle.images.proofs.field.Field.of.Goals as goal

pub returns-clause-inside : goal.returns-clause-inside
returns-clause-inside c = omega (arith, field_inside (nodes_of c.args.plan.now) c.args.n.0 c.requires)
