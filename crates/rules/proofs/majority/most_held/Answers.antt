use Rattle.std.proofs.Common.{arith}
use Rattle.basics.specs.Sets.{has}
use Rattle.basics.proofs.Masks.{counted_le}
use Rattle.rules.proofs.majority.most_held.Goals as goal

pub overflow_mul-result : goal.overflow_mul-result
overflow_mul-result c = let few = counted_le (has c.intersection.result.mask) 64 in omega arith
