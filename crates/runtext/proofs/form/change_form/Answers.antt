use Rattle.std.proofs.Common.{Some, sym, ap, ◌∙◌}
use Rattle.runtext_model.specs.Accepting.{node_number}
use Rattle.runtext_model.specs.Lines.{step}
use Rattle.runtext.specs.Forming.{change_said}
use Rattle.runtext.specs.Left.{pieces_left}
use Rattle.runtext.proofs.Formings.{change_none, change_valueless, change_long, change_is}
use Rattle.runtext.proofs.Listings.{same_word}
use Rattle.runtext.proofs.form.change_form.Goals as goal

pub returns-in_err-node : goal.returns-in_err-node
returns-in_err-node c = λ f. ap (change_said f) c.from_residual.ensures ∙ sym (change_none f (pieces_left c.args.rest) c.in_err-node.ensures)

pub returns-in_err-number : goal.returns-in_err-number
returns-in_err-number c = λ f.
    let (first, then, few) = c.in_ok-node.ensures in
    ap (change_said f) c.from_residual-in_err-number.ensures ∙ sym (change_valueless f (pieces_left c.args.rest) _ then.rest c.in_ok-node.node first c.in_err-number.ensures)

pub returns-in_err-end : goal.returns-in_err-end
returns-in_err-end c = λ f.
    let (first, then, few) = c.in_ok-node.ensures in
    let (second, last, small) = c.in_ok-number.ensures in
    ap (change_said f) c.from_residual-in_err-end.ensures ∙ sym (change_long f (pieces_left c.args.rest) _ _ then.rest last.rest (sym c.in_err-end.ensures))

pub returns : goal.returns
returns c = λ f.
    let (first, then, few) = c.in_ok-node.ensures in
    let (second, last, small) = c.in_ok-number.ensures in
    ap (λ z. Some (step (f (node_number c.in_ok-node.node) z))) (same_word c.in_ok-number.number small)
    ∙ sym (change_is f (pieces_left c.args.rest) _ _ then.rest last.rest c.in_ok-node.node c.in_ok-number.number (sym c.in_ok-end.ensures) first second)
