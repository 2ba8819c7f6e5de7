use Rattle.std.proofs.Common.{sym, ◌∙◌}
use Rattle.runtext.proofs.Digits.{numeral_sized, numeral_unsized}
use Rattle.runtext.proofs.number.numeral.Goals as goal

pub returns-then-is_sized : goal.returns-then-is_sized
returns-then-is_sized c = record {
  is = c.digits_value.ensures.is ∙ sym (numeral_sized c.args.digits.now (sym c.if-is_sized.ensures));
  small = c.digits_value.ensures.small;
}

pub returns-else-is_sized : goal.returns-else-is_sized
returns-else-is_sized c = record { is = sym (numeral_unsized c.args.digits.now (sym c.if-is_sized.ensures)); small = tt }
