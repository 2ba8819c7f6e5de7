use Rattle.std.proofs.Common.{◌≡◌, Some, None, Err, Option, Result, sym, ap, ◌∙◌, rules}
use Rattle.std.specs.Option.{ok_or}
use Rattle.basics.specs.declared.refusal.Refusal.{Refusal}
use Rattle.basics.specs.declared.refusal.Refusal.TheVariants.{MalformedLine}
use Rattle.runtext_model.specs.Lines.{line_of}
use Rattle.runtext.specs.declared.line.Line.{Line}
use Rattle.runtext.specs.Forming.{meaning, said}
use Rattle.runtext.specs.Of.{description_of}
use Rattle.runtext.proofs.Taking.{malformed, refused, at_line, at_result}
use Rattle.runtext.proofs.setup.Setup.take_line.Goals as goal

pub returns-in_err-said : goal.returns-in_err-said
returns-in_err-said c =
    let s = c.args.self.now in
    let ss = c.args.steps.now in
    let ts = c.args.turns.now in
    let l = line_of c.args.line.part.bytes.now in
    let none : c.line_of.result ≡ None = c.in_err-said.ensures.ok_part in
    let why : c.in_err-said.field-0.0 ≡ MalformedLine = let e : ◌≡◌ {A = Result Line Refusal} (Err c.in_err-said.field-0.0) (Err MalformedLine) = c.in_err-said.ensures.value ∙ ap (λ (o : Option Line). ok_or o MalformedLine) none in cc in
    let is : c.from_residual.result ≡ Err c.in_err-said.field-0.0 = search rules in
    at_result s s ss ss ts ts l _ _ (is ∙ ap (λ (e : Refusal). Err e) why)
    (refused s ss ts l MalformedLine (malformed (description_of s ss ts) l (sym c.line_of.ensures ∙ ap said none)))

pub returns-in-Rule : goal.returns-in-Rule
returns-in-Rule c =
    let l = line_of c.args.line.part.bytes.now in
    at_line c.args.self.now _ c.args.steps.now _ c.args.turns.now _ l _ _
    (sym c.line_of.ensures ∙ ap said c.in_ok-said.ensures.ok_part ∙ ap (λ x. Some (meaning x)) c.in-Rule.is)
    (c.rule_line.ensures c.args.steps.now c.args.turns.now)

pub returns-in-Node : goal.returns-in-Node
returns-in-Node c =
    let l = line_of c.args.line.part.bytes.now in
    at_line c.args.self.now _ c.args.steps.now _ c.args.turns.now _ l _ _
    (sym c.line_of.ensures ∙ ap said c.in_ok-said.ensures.ok_part ∙ ap (λ x. Some (meaning x)) c.in-Node.is)
    (c.node_line.ensures c.args.steps.now c.args.turns.now c.requires.steps)

pub returns-in-Guard : goal.returns-in-Guard
returns-in-Guard c =
    let l = line_of c.args.line.part.bytes.now in
    at_line c.args.self.now _ c.args.steps.now _ c.args.turns.now _ l _ _
    (sym c.line_of.ensures ∙ ap said c.in_ok-said.ensures.ok_part ∙ ap (λ x. Some (meaning x)) c.in-Guard.is)
    (c.guard_line.ensures c.args.steps.now c.args.turns.now c.requires.steps)

pub returns-in-Script : goal.returns-in-Script
returns-in-Script c =
    let l = line_of c.args.line.part.bytes.now in
    at_line c.args.self.now _ c.args.steps.now _ c.args.turns.now _ l _ _
    (sym c.line_of.ensures ∙ ap said c.in_ok-said.ensures.ok_part ∙ ap (λ x. Some (meaning x)) c.in-Script.is)
    (c.script_line.ensures c.args.turns.now)

pub returns-in-Step : goal.returns-in-Step
returns-in-Step c =
    let l = line_of c.args.line.part.bytes.now in
    at_line c.args.self.now _ c.args.steps.now _ c.args.turns.now _ l _ _
    (sym c.line_of.ensures ∙ ap said c.in_ok-said.ensures.ok_part ∙ ap (λ x. Some (meaning x)) c.in-Step.is)
    (c.step_line.ensures c.args.turns.now)

pub returns-in-Turns : goal.returns-in-Turns
returns-in-Turns c =
    let l = line_of c.args.line.part.bytes.now in
    at_line c.args.self.now _ c.args.steps.now _ c.args.turns.now _ l _ _
    (sym c.line_of.ensures ∙ ap said c.in_ok-said.ensures.ok_part ∙ ap (λ x. Some (meaning x)) c.in-Turns.is)
    (c.turns_line.ensures c.args.steps.now)
