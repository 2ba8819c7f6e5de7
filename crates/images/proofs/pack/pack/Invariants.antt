use Rattle.std.proofs.Common.{◌≡◌, ℕ, cond, ltb, length}
use Rattle.plans.specs.Meaning.{nodes_of}
use Rattle.plans.specs.Nodes.{field_start}
use Rattle.image_model.specs.Image.{image_bit}
use Rattle.image_model.specs.Fields.{packed_bit}
use Rattle.images.proofs.pack.pack.Given as goal

-- the first fields are packed, and all further bits are as they were
abbrev pub invariant-loop-n : goal.invariant-loop-n
invariant-loop-n l = record {
  can_next : (goal.iterator-loop-n).can_next l.n-iterator;
  is_finite : (goal.iterator-loop-n).is_finite l.n-iterator;
  packed : (i : ℕ) → image_bit l.image i ≡ cond (ltb i (field_start (nodes_of l.plan) (length l.yielded))) (packed_bit (nodes_of l.plan) l.values i) (image_bit l.initial.image i);
}
