use Rattle.std.proofs.Common.{ℕ, List, Some, None, sym, ap, ◌∙◌}
use Rattle.runtext_model.specs.Accepting.{is_empty}
use Rattle.runtext_model.specs.Lines.{guard, and_then}
use Rattle.runtext.specs.Finding.{first_word}
use Rattle.runtext.specs.Forming.{said}
use Rattle.runtext.specs.Left.{pieces_left}
use Rattle.runtext.specs.Listing.{front, listed}
use Rattle.runtext.specs.Meaning.{means, part_of}
use Rattle.runtext.proofs.Formings.{numbers_whole, numbers_cut, guard_none, guard_is, two_lists_are, two_lists_none}
use Rattle.runtext.proofs.Listings.{no_slash}
use Rattle.runtext.proofs.form.guard_form.Goals as goal

pub returns-in_err-node : goal.returns-in_err-node
returns-in_err-node c = ap said c.from_residual.ensures ∙ sym (guard_none (pieces_left c.args.rest) c.in_err-node.ensures)

pub returns-in_err-word : goal.returns-in_err-word
returns-in_err-word c =
    let (first, then, few) = c.in_ok-node.ensures in
    let (from, rest) = c.list.ensures in
    let none = ap first_word (sym rest) ∙ c.in_err-word.ensures in
    ap said c.from_residual-in_err-word.ensures
    ∙ sym (guard_is (pieces_left c.args.rest) _ then.rest c.in_ok-node.node None first (two_lists_none (pieces_left c.in_ok-node.rest) (λ t. cc (none, t))))

pub returns-in_default : goal.returns-in_default
returns-in_default c =
    let (first, then, few) = c.in_ok-node.ensures in
    let (from, rest) = c.list.ensures in
    let found = c.in_ok-word.ensures in
    let says = ap first_word (sym rest ∙ found.cuts.cut) ∙ found.says in
    sym (guard_is (pieces_left c.args.rest) _ then.rest c.in_ok-node.node None first
    (two_lists_none (pieces_left c.in_ok-node.rest) (λ t. no_slash c.in_ok-word.word c.in_default.not-Slash (sym says ∙ t))))

pub returns-in_err-end : goal.returns-in_err-end
returns-in_err-end c =
    let (first, then, few) = c.in_ok-node.ensures in
    let (from, rest) = c.list.ensures in
    let found = c.in_ok-word.ensures in
    let word = found.says ∙ ap (λ w. Some (means w)) c.in-Slash.is in
    let (from-b, rest-b) = c.list-2.ensures in
    let cut = sym (ap is_empty rest-b) ∙ sym c.in_err-end.ensures in
    ap said c.from_residual-in_err-end.ensures
    ∙ sym (guard_is (pieces_left c.args.rest) _ then.rest c.in_ok-node.node None first
    (two_lists_are (part_of c.in_ok-word.word).bytes.now (pieces_left c.in_ok-word.rest) word (pieces_left c.in_ok-node.rest) (sym rest ∙ found.cuts.cut)
    ∙ ap (λ o. and_then {B = List ℕ × List ℕ} o (λ b. Some (front (pieces_left c.in_ok-node.rest), b))) (numbers_cut (pieces_left c.in_ok-word.rest) cut)))

pub returns : goal.returns
unfolding listed
returns c =
    let (first, then, few) = c.in_ok-node.ensures in
    let (from, rest) = c.list.ensures in
    let found = c.in_ok-word.ensures in
    let word = found.says ∙ ap (λ w. Some (means w)) c.in-Slash.is in
    let (from-b, rest-b) = c.list-2.ensures in
    let whole = sym (ap is_empty rest-b) ∙ sym c.in_ok-end.ensures in
    ap (λ x. Some (guard c.in_ok-node.node (listed x) (listed c.list-2.result.0.from))) from
    ∙ ap (λ x. Some (guard c.in_ok-node.node (listed c.in_ok-node.rest) (listed x))) from-b
    ∙ sym (guard_is (pieces_left c.args.rest) _ then.rest c.in_ok-node.node _ first
    (two_lists_are (part_of c.in_ok-word.word).bytes.now (pieces_left c.in_ok-word.rest) word (pieces_left c.in_ok-node.rest) (sym rest ∙ found.cuts.cut)
    ∙ ap (λ o. and_then {B = List ℕ × List ℕ} o (λ b. Some (front (pieces_left c.in_ok-node.rest), b))) (numbers_whole (pieces_left c.in_ok-word.rest) whole)))
