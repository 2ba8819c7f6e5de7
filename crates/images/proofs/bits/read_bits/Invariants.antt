use Rattle.std.proofs.Common.{◌≡◌, ◌+◌, ◌-◌, ◌*◌, ◌/◌, min, max}
use Rattle.image_model.specs.Image.{image_bit, number}
use Rattle.images.proofs.bits.read_bits.Given as goal

-- the bits before the next byte are read, as far as the run has them
abbrev pub invariant-loop-byte : goal.invariant-loop-byte
invariant-loop-byte l = record {
  place : l.from ≡ min (max l.at (8 * (l.at / 8 + l.byte-index))) l.end;
  read : l.number ≡ number (image_bit l.image) l.at (l.from - l.at);
}
