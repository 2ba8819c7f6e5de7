use Rattle.std.proofs.Common.{sym, ap, ◌∙◌}
use Rattle.runtext.specs.Forming.{said}
use Rattle.runtext.specs.Left.{pieces_left}
use Rattle.runtext.proofs.Formings.{script_is, script_long}
use Rattle.runtext.proofs.form.script_form.Goals as goal

pub returns-in_err-end : goal.returns-in_err-end
returns-in_err-end c = ap said c.from_residual.ensures ∙ sym (script_long (pieces_left c.args.rest) (sym c.in_err-end.ensures))

pub returns : goal.returns
returns c = sym (script_is (pieces_left c.args.rest) (sym c.in_ok-end.ensures))
