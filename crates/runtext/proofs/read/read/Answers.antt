use Rattle.std.proofs.Common.{◌≡◌, true, Option, None, Result, Ok, Err, sym, refl, ap, ◌∙◌, subst}
use Rattle.std.specs.Result.{is_ok}
use Rattle.basics.specs.declared.refusal.Refusal.{Refusal}
use Rattle.runtext_model.specs.Description.{Description}
use Rattle.runtext_model.specs.Pieces.{pieces}
use Rattle.runtext_model.specs.Reading.{read_lines, read_text}
use Rattle.runtext_model.specs.Writing.{written}
use Rattle.runtext_model.proofs.Readings.{text_of_what_is_read}
use Rattle.runtext_model.proofs.Returns.{canonical}
use Rattle.runtext.specs.Of.{why}
use Rattle.runtext.specs.Outcome.{fault_of, fault_unless, Describes, LeftBy}
use Rattle.runtext.proofs.read.read.Goals as goal

why_ok : (r : Result (Unit {0}) Refusal) → is_ok r ≡ true → why r ≡ None
why_ok (Ok u) e = refl
why_ok (Err x) e = cc

pub returns-in_err-map_err-clause-canonical : goal.returns-in_err-map_err-clause-canonical
returns-in_err-map_err-clause-canonical c = canonical

pub returns : goal.returns
returns c =
    let text = c.args.text.now in
    let o = read_text text in
    let s = c.args.setup.now in
    let ss = c.args.steps.now in
    let ts = c.args.turns.now in
    let is = sym (why_ok c.unread.result (sym c.map_err.ensures.variant ∙ ap is_ok c.in_ok-map_err.was)) ∙ c.unread.ensures in
    let first = c.new.ensures ss ts in
    let r = c.read_lines.ensures in
    let told = r.answers ∙ ap (λ (d : Description). (read_lines d 1 0 (pieces 10 text)).fault) first in
    let left : Describes o.description c.read_lines.new.self ss c.read_lines.new.steps ts c.read_lines.new.turns
    = subst (λ (d : Description). Describes (read_lines d 1 0 (pieces 10 text)).description c.read_lines.new.self ss c.read_lines.new.steps ts c.read_lines.new.turns) first r.leaves in
    record {
      answers = told ∙ ap (λ x. fault_unless x o) is;
      leaves = subst (λ (x : Option Refusal). LeftBy x o s c.read_lines.new.self ss c.read_lines.new.steps ts c.read_lines.new.turns) is left;
      text = λ e. text_of_what_is_read text (sym told ∙ ap fault_of e) ∙ sym (ap written left.described);
      canonical = canonical;
    }
