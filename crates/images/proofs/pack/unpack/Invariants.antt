use Rattle.std.proofs.Common.{◌≡◌, take}
use Rattle.plans.specs.Meaning.{nodes_of}
use Rattle.image_model.specs.Fields.{unpacked}
use Rattle.images.proofs.pack.unpack.Given as goal

-- the first n values are read
abbrev pub invariant-loop-n : goal.invariant-loop-n
invariant-loop-n l = take l.n l.value-items ≡ unpacked (nodes_of l.plan) l.image l.n
