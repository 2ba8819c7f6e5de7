use Rattle.std.proofs.Common.{ap, ◌∙◌}
use mathlib.Core.Path.{subst⁻¹}
use Rattle.runtext_model.specs.Words.{word_of}
use Rattle.runtext.specs.declared.part.Part.{Part}
use Rattle.runtext.specs.Finding.{first_word, WordFound}
use Rattle.runtext.specs.Left.{Cuts}
use Rattle.runtext.proofs.piece.Rest.word.Goals as goal

pub returns-in_err-part : goal.returns-in_err-part
returns-in_err-part c = subst⁻¹ (WordFound c.args.self) c.from_residual.ensures (ap first_word c.in_err-part.ensures)

pub returns-in_err-word_of : goal.returns-in_err-word_of
returns-in_err-word_of c =
    subst⁻¹ (WordFound c.args.self) c.from_residual-in_err-word_of.ensures (ap first_word c.in_ok-part.ensures.cut ∙ c.in_err-word_of.ensures)

pub returns : goal.returns
returns c =
    let (says, formed, part) = c.in_ok-word_of.ensures in
    record {
      cuts = subst⁻¹ (λ (p : Part). Cuts c.args.self p c.in_ok-part.rest) part c.in_ok-part.ensures;
      says = ap (λ (p : Part). word_of p.bytes.now) part ∙ says;
      formed = formed;
    }
