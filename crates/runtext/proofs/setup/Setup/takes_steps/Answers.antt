use Rattle.std.proofs.Common.{not, ◌&&◌, sym, ap, ◌∙◌, arith}
use Rattle.std.proofs.lemmas.Bool.{ne_eqb}
use Rattle.runtext_model.specs.Accepting.{before_turns}
use Rattle.runtext.specs.Of.{description_of}
use Rattle.runtext.proofs.Taking.{none_taken}
use Rattle.runtext.proofs.setup.Setup.takes_steps.Goals as goal

pub returns-then-self-ne0 : goal.returns-then-self-ne0
returns-then-self-ne0 c = λ ss ts l st.
    let s = c.args.self.now in
    c.takes_scripts.ensures ss ts
    ∙ ap (λ b. not b && before_turns (description_of s ss ts)) (sym (none_taken s.steps ss (omega arith) ∙ ne_eqb s.steps 0 c.if-self-ne0.true))
