use Rattle.std.proofs.Common.{◌≡◌, ◌+◌, ◌<◌, ◌&&◌, ◌++◌, ◌∷◌, [], Bool, length, take, set, Some, None, Ok, Err, Option, Result, sym, refl, ap, ◌∙◌, ap₂, arith, rules}
use Rattle.std.specs.Option.{ok_or}
use Rattle.basics.specs.declared.refusal.Refusal.{Refusal}
use Rattle.scripts_model.specs.declared.step.Step.{Step}
use Rattle.std.proofs.lemmas.List.{take_more_set, drop-set-lt}
use Rattle.std.proofs.lemmas.Bool.{lt-ltb, le-ltb}
use Rattle.basics.specs.declared.refusal.Refusal.TheVariants.{MisplacedLine, LimitExceeded}
use Rattle.plans.specs.Meaning.{nodes_of}
use Rattle.runtext_model.specs.Accepting.{limit_unless, good_step}
use Rattle.runtext_model.specs.Lines.{step}
use Rattle.runtext.specs.Forming.{step_of}
use Rattle.runtext.specs.Of.{description_of}
use Rattle.runtext.proofs.Taking.{misplaced, judged, refused, taken, with_steps, room_is, step_refused, step_good, at_result}
use Rattle.runtext.proofs.setup.Setup.step_line.Goals as goal

pub returns-then-not-takes_steps : goal.returns-then-not-takes_steps
returns-then-not-takes_steps c = λ ts.
    let s = c.args.self.now in
    let ss = c.args.steps.now in
    let x = step (step_of c.args.form) in
    refused s ss ts (Some x) MisplacedLine
    (misplaced (description_of s ss ts) x (sym (c.takes_steps.ensures ss ts c.requires (step_of c.args.form)) ∙ c.if-not-takes_steps.true))

pub returns-then-self-ge-STEPS : goal.returns-then-self-ge-STEPS
returns-then-self-ge-STEPS c = λ ts.
    let s = c.args.self.now in
    let ss = c.args.steps.now in
    let st = step_of c.args.form in
    refused s ss ts (Some (step st)) LimitExceeded
    (judged (description_of s ss ts) (step st) (Some LimitExceeded) (sym (c.takes_steps.ensures ss ts c.requires st) ∙ c.if-not-takes_steps.false)
    (ap (λ b. limit_unless (b && good_step (length (nodes_of s.table.plan)) st)) (room_is s ss ts c.requires ∙ le-ltb s.steps 1024 (omega arith))))

pub returns-in_err-step : goal.returns-in_err-step
returns-in_err-step c = λ ts.
    let s = c.args.self.now in
    let ss = c.args.steps.now in
    let st = step_of c.args.form in
    let none : c.step_of.result ≡ None = c.in_err-step.ensures.ok_part in
    let bad = step_refused (good_step c.node_count.result st) st (sym none ∙ c.step_of.ensures) in
    let why : c.in_err-step.field-0.0 ≡ LimitExceeded = let e : ◌≡◌ {A = Result Step Refusal} (Err c.in_err-step.field-0.0) (Err LimitExceeded) = c.in_err-step.ensures.value ∙ ap (λ (o : Option Step). ok_or o LimitExceeded) none in cc in
    let is : c.from_residual.result ≡ Err c.in_err-step.field-0.0 = search rules in
    at_result s s ss ss ts ts (Some (step st)) _ _ (is ∙ ap (λ (e : Refusal). Err e) why)
    (refused s ss ts (Some (step st)) LimitExceeded
    (judged (description_of s ss ts) (step st) (Some LimitExceeded) (sym (c.takes_steps.ensures ss ts c.requires st) ∙ c.if-not-takes_steps.false)
    (ap₂ (λ (a b : Bool). limit_unless (a && b)) (room_is s ss ts c.requires ∙ lt-ltb s.steps 1024 (omega arith)) (ap (λ k. good_step k st) (sym c.node_count.ensures) ∙ bad))))

pub returns : goal.returns
returns c = λ ts.
    let s = c.args.self.now in
    let ss = c.args.steps.now in
    let st = step_of c.args.form in
    let (good, is) = step_good (good_step c.node_count.result st) st c.in_ok-step.step (sym c.in_ok-step.ensures.ok_part ∙ c.step_of.ensures) in
    let few : s.steps < 1024 = omega arith in
    let room : s.steps < length ss = omega (arith, few, c.requires) in
    taken s _ ss _ ts ts (Some (step st))
    (judged (description_of s ss ts) (step st) None (sym (c.takes_steps.ensures ss ts c.requires st) ∙ c.if-not-takes_steps.false)
    (ap₂ (λ (a b : Bool). limit_unless (a && b)) (room_is s ss ts c.requires ∙ lt-ltb s.steps 1024 few) (ap (λ k. good_step k st) (sym c.node_count.ensures) ∙ good))
    ∙ ap (λ y. Ok (with_steps s s.scripts ts (take s.steps ss ++ (y ∷ [])))) (sym is)
    ∙ ap (λ l. Ok (with_steps s s.scripts ts l)) (sym (take_more_set ss s.steps c.in_ok-step.step room) ∙ ap (λ i. take (s.steps + 1) (set ss i c.in_ok-step.step)) (sym c.from.ensures)))
    (omega arith) (drop-set-lt (s.steps + 1) ss c.from.result c.in_ok-step.step (omega (arith, c.from.ensures))) (omega arith) refl
