use Rattle.std.proofs.Common.{◌≡◌, false, not, ◌&&◌, eqb, sym, ap, ◌∙◌, arith, rules}
use Rattle.std.proofs.lemmas.Bool.{eq-eqb, ne_eqb}
use Rattle.runtext_model.specs.Accepting.{is_some}
use Rattle.runtext.specs.Of.{turns_in}
use Rattle.runtext.proofs.Taking.{none_taken}
use Rattle.runtext.proofs.setup.Setup.before_scripts.Goals as goal

pub returns-then-self-eq0 : goal.returns-then-self-eq0
returns-then-self-eq0 c = λ ss ts l.
    let s = c.args.self.now in
    let no : c.is_none.result ≡ not (is_some (turns_in s.turns ts)) = search rules in
    no ∙ ap (λ b. b && not (is_some (turns_in s.turns ts))) (sym (none_taken s.steps ss (omega arith) ∙ eq-eqb s.steps 0 c.if-self-eq0.true))

pub returns-else-self-eq0 : goal.returns-else-self-eq0
returns-else-self-eq0 c = λ ss ts l.
    let s = c.args.self.now in
    let some : eqb s.steps 0 ≡ false = ne_eqb s.steps 0 c.if-self-eq0.false in
    some ∙ ap (λ b. b && not (is_some (turns_in s.turns ts))) (sym (none_taken s.steps ss (omega arith) ∙ some))
