use Rattle.std.proofs.Common.{None, Some, sym, ap, ◌∙◌}
use Rattle.runtext_model.specs.Accepting.{is_empty}
use Rattle.runtext_model.specs.Lines.{node}
use Rattle.runtext.specs.Forming.{said}
use Rattle.runtext.specs.Left.{pieces_left}
use Rattle.runtext.specs.Listing.{listed}
use Rattle.runtext.proofs.Formings.{node_none, node_valueless, node_is, numbers_whole, numbers_cut}
use Rattle.runtext.proofs.Listings.{same_word}
use Rattle.runtext.proofs.form.node_form.Goals as goal

pub returns-in_err-width : goal.returns-in_err-width
returns-in_err-width c = ap said c.from_residual.ensures ∙ sym (node_none (pieces_left c.args.rest) c.in_err-width.ensures)

pub returns-in_err-value : goal.returns-in_err-value
returns-in_err-value c =
    let (first, second, small) = c.in_ok-width.ensures in
    ap said c.from_residual-in_err-value.ensures ∙ sym (node_valueless (pieces_left c.args.rest) _ second.rest c.in_ok-width.width first c.in_err-value.ensures)

pub returns-in_err-end : goal.returns-in_err-end
returns-in_err-end c =
    let (first, then, few) = c.in_ok-width.ensures in
    let (second, last, small) = c.in_ok-value.ensures in
    let (from, rest) = c.list.ensures in
    let cut = sym (ap is_empty rest) ∙ sym c.in_err-end.ensures in
    ap said c.from_residual-in_err-end.ensures ∙ sym (node_is (pieces_left c.args.rest) _ _ then.rest last.rest c.in_ok-width.width c.in_ok-value.value None first second (numbers_cut _ cut))

pub returns : goal.returns
unfolding listed
returns c =
    let (first, then, few) = c.in_ok-width.ensures in
    let (second, last, small) = c.in_ok-value.ensures in
    let (from, rest) = c.list.ensures in
    let whole = sym (ap is_empty rest) ∙ sym c.in_ok-end.ensures in
    ap (λ z. Some (node c.in_ok-width.width z (listed c.list.result.0.from))) (same_word c.in_ok-value.value small)
    ∙ ap (λ r. Some (node c.in_ok-width.width c.in_ok-value.value (listed r))) from
    ∙ sym (node_is (pieces_left c.args.rest) _ _ then.rest last.rest c.in_ok-width.width c.in_ok-value.value _ first second (numbers_whole _ whole))
