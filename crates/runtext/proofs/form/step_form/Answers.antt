use Rattle.std.proofs.Common.{sym, ap, ◌∙◌}
use Rattle.runtext.specs.Forming.{step_said}
use Rattle.runtext.specs.Left.{pieces_left}
use Rattle.runtext.proofs.Formings.{step_none, step_long, step_is}
use Rattle.runtext.proofs.form.step_form.Goals as goal

pub returns-in_err-node : goal.returns-in_err-node
returns-in_err-node c = λ f. ap (step_said f) c.from_residual.ensures ∙ sym (step_none f (pieces_left c.args.rest) c.in_err-node.ensures)

pub returns-in_err-end : goal.returns-in_err-end
returns-in_err-end c = λ f.
    let (first, then, few) = c.in_ok-node.ensures in
    ap (step_said f) c.from_residual-in_err-end.ensures ∙ sym (step_long f (pieces_left c.args.rest) _ then.rest (sym c.in_err-end.ensures))

pub returns : goal.returns
returns c = λ f.
    let (first, then, few) = c.in_ok-node.ensures in
    sym (step_is f (pieces_left c.args.rest) _ then.rest c.in_ok-node.node (sym c.in_ok-end.ensures) first)
