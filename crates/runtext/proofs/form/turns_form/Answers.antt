use Rattle.std.proofs.Common.{Some, sym, ap, ◌∙◌}
use Rattle.runtext_model.specs.Accepting.{is_empty}
use Rattle.runtext_model.specs.Lines.{turns, and_then}
use Rattle.runtext.specs.Forming.{said}
use Rattle.runtext.specs.Left.{pieces_left}
use Rattle.runtext.specs.Listing.{listed}
use Rattle.runtext.proofs.Formings.{numbers_whole, numbers_cut}
use Rattle.runtext.proofs.form.turns_form.Goals as goal

pub returns-in_err-end : goal.returns-in_err-end
returns-in_err-end c =
    let (from, rest) = c.list.ensures in
    ap said c.from_residual.ensures ∙ sym (ap (λ o. and_then o (λ ts. Some (turns ts))) (numbers_cut (pieces_left c.args.rest) (sym (ap is_empty rest) ∙ sym c.in_err-end.ensures)))

pub returns : goal.returns
unfolding listed
returns c =
    let (from, rest) = c.list.ensures in
    ap (λ r. Some (turns (listed r))) from
    ∙ sym (ap (λ o. and_then o (λ ts. Some (turns ts))) (numbers_whole (pieces_left c.args.rest) (sym (ap is_empty rest) ∙ sym c.in_ok-end.ensures)))
