use Rattle.std.proofs.Common.{Some, sym, ap, ◌∙◌}
use Rattle.runtext_model.specs.Lines.{by_first, line_of_pieces}
use Rattle.runtext_model.specs.Pieces.{pieces}
use Rattle.runtext.specs.Forming.{said}
use Rattle.runtext.specs.Left.{pieces_left}
use Rattle.runtext.specs.Meaning.{means}
use Rattle.runtext.proofs.Letters.{no_letter, other_first}
use Rattle.runtext.proofs.letter.line_of.Goals as goal

pub returns-in_err-word : goal.returns-in_err-word
unfolding pieces_left
returns-in_err-word c = ap said c.from_residual.ensures ∙ sym (no_letter (pieces 32 c.args.line.part.bytes.now) c.in_err-word.ensures)

pub returns-in_default : goal.returns-in_default
unfolding pieces_left
returns-in_default c =
    let found = c.in_ok-word.ensures in
    let rest = pieces_left c.in_ok-word.rest in
    sym (ap line_of_pieces found.cuts.cut ∙ ap (λ o. by_first o rest) found.says ∙ other_first c.in_ok-word.word rest c.in_default.not-Letter)

pub returns : goal.returns
unfolding pieces_left
returns c =
    let found = c.in_ok-word.ensures in
    let rest = pieces_left c.in_ok-word.rest in
    c.said_after.ensures
    ∙ sym (ap line_of_pieces found.cuts.cut ∙ ap (λ o. by_first o rest) found.says ∙ ap (λ w. by_first (Some (means w)) rest) c.in-Letter.is)
