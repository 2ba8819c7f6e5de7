use Rattle.std.proofs.Common.{◌+◌, ◌<◌, ◌&&◌, ltb, length, take, set, Some, None, Ok, sym, refl, ap, ◌∙◌, arith, rules}
use Rattle.std.proofs.lemmas.List.{take_more_set, drop-set-lt}
use Rattle.basics.specs.declared.refusal.Refusal.TheVariants.{MisplacedLine, LimitExceeded}
use Rattle.scripts_model.specs.declared.step.Step.TheVariants.{End}
use Rattle.runtext_model.specs.Accepting.{limit_unless}
use Rattle.runtext_model.specs.Lines.{script}
use Rattle.runtext.specs.Of.{description_of}
use Rattle.runtext.proofs.Limits.{within_both, past_either}
use Rattle.runtext.proofs.Taking.{misplaced, judged, refused, taken, with_steps, room_is}
use Rattle.runtext.proofs.setup.Setup.script_line.Goals as goal

pub returns-then-not-takes_scripts : goal.returns-then-not-takes_scripts
returns-then-not-takes_scripts c = λ ts.
    let s = c.args.self.now in
    let ss = c.args.steps.now in
    refused s ss ts (Some script) MisplacedLine (misplaced (description_of s ss ts) script (sym (c.takes_scripts.ensures ss ts) ∙ c.if-not-takes_scripts.true))

pub returns-then-self : goal.returns-then-self
returns-then-self c = λ ts.
    let s = c.args.self.now in
    let ss = c.args.steps.now in
    refused s ss ts (Some script) LimitExceeded
    (judged (description_of s ss ts) script (Some LimitExceeded) (sym (c.takes_scripts.ensures ss ts) ∙ c.if-not-takes_scripts.false)
    (ap (λ b. limit_unless (b && ltb s.scripts 32)) (room_is s ss ts c.requires) ∙ ap limit_unless (past_either s.steps 1024 s.scripts 32 c.if-self.true)))

pub returns : goal.returns
returns c = λ ts.
    let s = c.args.self.now in
    let ss = c.args.steps.now in
    let room : s.steps < length ss = search rules in
    taken s _ ss _ ts ts (Some script)
    (judged (description_of s ss ts) script None (sym (c.takes_scripts.ensures ss ts) ∙ c.if-not-takes_scripts.false)
    (ap (λ b. limit_unless (b && ltb s.scripts 32)) (room_is s ss ts c.requires) ∙ ap limit_unless (within_both s.steps 1024 s.scripts 32 c.if-self.false))
    ∙ ap (λ l. Ok (with_steps s (s.scripts + 1) ts l)) (sym (take_more_set ss s.steps End room) ∙ ap (λ i. take (s.steps + 1) (set ss i End)) (sym c.from.ensures)))
    (omega arith) (drop-set-lt (s.steps + 1) ss c.from.result End (omega (arith, c.from.ensures))) (omega arith) refl
