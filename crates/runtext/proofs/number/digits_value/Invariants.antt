use Rattle.std.proofs.Common.{◌≡◌, ◌^◌, ◌<◌, drop}
use Rattle.runtext.specs.Numerals.{digits_read}
use Rattle.runtext.proofs.number.digits_value.Given as goal

abbrev pub invariant-loop-b : goal.invariant-loop-b
invariant-loop-b l = (digits_read l.n (drop l.b-index l.digits) ≡ digits_read 0 l.digits) × (l.n < 10 ^ l.b-index)
