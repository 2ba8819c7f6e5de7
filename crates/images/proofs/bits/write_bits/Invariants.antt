use Rattle.std.proofs.Common.{◌≡◌, ℕ, ◌*◌, ◌%◌, cond, ltb}
use Rattle.image_model.specs.Image.{image_bit, with_field}
use Rattle.images.proofs.bits.write_bits.Given as goal

-- the bits of the first k bytes are written
abbrev pub invariant-loop-k : goal.invariant-loop-k
invariant-loop-k l =
    (i : ℕ) → image_bit l.bytes i ≡ cond (ltb i (8 * l.k)) (with_field (image_bit l.initial.bytes) (l.at % 8) l.width l.bits i) (image_bit l.initial.bytes i)
