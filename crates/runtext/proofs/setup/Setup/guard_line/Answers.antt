use Rattle.std.proofs.Common.{◌≡◌, cond, not, ◌||◌, ltb, List, map, length, take, Some, None, Ok, Err, sym, refl, ap, ◌∙◌, ap₂, arith, rules}
use Rattle.basics.specs.declared.refusal.Refusal.TheVariants.{MisplacedLine, LimitExceeded, BadGuard, GuardsApart}
use Rattle.basics.specs.Refusals.{leave_unless}
use Rattle.plans.specs.declared.plan.Plan.{Plan}
use Rattle.plans.specs.Meaning.{nodes_of}
use Rattle.rules.specs.declared.guard.Guard.{Guard}
use Rattle.rules.specs.Adding.{guard_from, good_guard, guard_refusal, with_guard}
use Rattle.rules.specs.Guards.{all_compatible}
use Rattle.rules.specs.Meaning.{guards_of}
use Rattle.runtext_model.specs.Accepting.{node_number}
use Rattle.runtext.specs.Forming.{guard_of}
use Rattle.runtext.specs.Listing.{listed}
use Rattle.runtext.specs.Of.{description_of}
use Rattle.runtext.proofs.Limits.{bad_guard, named_below, past_one}
use Rattle.runtext.proofs.Listings.{counted}
use Rattle.runtext.proofs.Tables.{was_taken, was_refused, with_table, same_table}
use Rattle.runtext.proofs.Taking.{misplaced, judged, refused, unchanged, taken, at_result}
use Rattle.runtext.proofs.setup.Setup.guard_line.Goals as goal

pub returns-then-not-takes_guards : goal.returns-then-not-takes_guards
returns-then-not-takes_guards c = λ ss ts l.
    let s = c.args.self.now in
    let form = c.args.form in
    let x = guard_of form in
    refused s ss ts (Some x) MisplacedLine
    (misplaced (description_of s ss ts) x
    (sym (c.takes_guards.ensures ss ts l form.node (listed form.a.from) (listed form.b.from)) ∙ c.if-not-takes_guards.true))

pub returns-then-not-in_limits : goal.returns-then-not-in_limits
returns-then-not-in_limits c = λ ss ts l.
    let s = c.args.self.now in
    let form = c.args.form in
    let a = listed form.a.from in
    let b = listed form.b.from in
    let x = guard_of form in
    let nodes = nodes_of s.table.plan in
    let guards = guards_of s.table in
    let n = node_number form.node in
    refused s ss ts (Some x) LimitExceeded
    (judged (description_of s ss ts) x (Some LimitExceeded)
    (sym (c.takes_guards.ensures ss ts l form.node a b) ∙ c.if-not-takes_guards.false)
    (ap (λ t. cond (not t) (Some LimitExceeded) (cond (not (good_guard nodes n (map node_number a) (map node_number b))) (Some BadGuard) (cond (not (all_compatible (guard_from n (map node_number a) (map node_number b)) guards)) (Some GuardsApart) None)))
    (sym c.in_limits.ensures ∙ c.if-not-in_limits.true)))

pub returns-then-form-gt-NODES : goal.returns-then-form-gt-NODES
returns-then-form-gt-NODES c = λ ss ts l.
    let s = c.args.self.now in
    let form = c.args.form in
    let a = listed form.a.from in
    let b = listed form.b.from in
    let x = guard_of form in
    let nodes = nodes_of s.table.plan in
    let guards = guards_of s.table in
    let n = node_number form.node in
    let within = sym c.in_limits.ensures ∙ c.if-not-in_limits.false in
    let many = counted form.a (λ k m. ltb 64 k || ltb 64 (length b)) ∙ counted form.b (λ k m. ltb 64 form.a.count || ltb 64 k) ∙ past_one 64 form.a.count 64 form.b.count c.then-form-gt-NODES.either in
    refused s ss ts (Some x) BadGuard
    (judged (description_of s ss ts) x (Some BadGuard)
    (sym (c.takes_guards.ensures ss ts l form.node a b) ∙ c.if-not-takes_guards.false)
    (bad_guard s.table.plan guards n a b within many))

-- each list goes in whole, and its numbers are below 64
pub nodes_in-a-requires-clause-below : goal.nodes_in-a-requires-clause-below
nodes_in-a-requires-clause-below c =
    let form = c.args.form in
    let below = named_below c.args.self.now.table.plan (guards_of c.args.self.now.table) form.node (listed form.a.from) (listed form.b.from) (sym c.in_limits.ensures ∙ c.if-not-in_limits.false) in
    omega (arith, below.1, form.a.limited)

pub nodes_in-b-requires-clause-below : goal.nodes_in-b-requires-clause-below
nodes_in-b-requires-clause-below c =
    let form = c.args.form in
    let below = named_below c.args.self.now.table.plan (guards_of c.args.self.now.table) form.node (listed form.a.from) (listed form.b.from) (sym c.in_limits.ensures ∙ c.if-not-in_limits.false) in
    omega (arith, below.2, form.b.limited)

pub overflow_cast-form : goal.overflow_cast-form
overflow_cast-form c =
    let form = c.args.form in
    let below = named_below c.args.self.now.table.plan (guards_of c.args.self.now.table) form.node (listed form.a.from) (listed form.b.from) (sym c.in_limits.ensures ∙ c.if-not-in_limits.false) in
    omega (arith, below.0)

pub returns : goal.returns
returns c = λ ss ts l.
    let s = c.args.self.now in
    let form = c.args.form in
    let a = listed form.a.from in
    let b = listed form.b.from in
    let x = guard_of form in
    let nodes = nodes_of s.table.plan in
    let guards = guards_of s.table in
    let n = node_number form.node in
    let whole-a = c.nodes_in-a.ensures in
    let whole-b = c.nodes_in-b.ensures in
    let given-a = c.nodes_in-a.result.now in
    let given-b = c.nodes_in-b.result.now in
    let here = sym (c.takes_guards.ensures ss ts l form.node a b) ∙ c.if-not-takes_guards.false in
    let none = was_taken (guard_refusal nodes guards n given-a given-b) _ tt c.in_ok-add.ensures.answers in
    let none' = ap₂ (guard_refusal nodes guards n) (sym whole-a) (sym whole-b) ∙ none in
    let guards' = c.in_ok-add.ensures.leaves ∙ ap (λ r. leave_unless r guards (with_guard guards n given-a given-b)) none ∙ ap₂ (with_guard guards n) whole-a whole-b in
    let plan = c.in_ok-add.ensures.plan in
    taken s _ ss ss ts ts (Some x)
    (judged (description_of s ss ts) x None here none'
    ∙ ap Ok (sym (ap₂ (λ (p : Plan) (g : List Guard). with_table s ss ts (nodes_of p) (take (length (nodes_of p)) s.values) g) plan guards')))
    (omega arith) refl (omega arith) refl

pub returns-in_err-add : goal.returns-in_err-add
returns-in_err-add c = λ ss ts l.
    let s = c.args.self.now in
    let e = c.in_err-add.field-0.0 in
    let is : c.from_residual.result ≡ Err e = search rules in
    let form = c.args.form in
    let a = listed form.a.from in
    let b = listed form.b.from in
    let x = guard_of form in
    let nodes = nodes_of s.table.plan in
    let guards = guards_of s.table in
    let n = node_number form.node in
    let whole-a = c.nodes_in-a.ensures in
    let whole-b = c.nodes_in-b.ensures in
    let given-a = c.nodes_in-a.result.now in
    let given-b = c.nodes_in-b.result.now in
    let here = sym (c.takes_guards.ensures ss ts l form.node a b) ∙ c.if-not-takes_guards.false in
    let some = was_refused (guard_refusal nodes guards n given-a given-b) tt e c.in_err-add.ensures.answers in
    let some' = ap₂ (guard_refusal nodes guards n) (sym whole-a) (sym whole-b) ∙ some in
    let guards' = c.in_err-add.ensures.leaves ∙ ap (λ r. leave_unless r guards (with_guard guards n given-a given-b)) some in
    let plan = c.in_err-add.ensures.plan in
    at_result s _ ss ss ts ts (Some x) _ _ is (unchanged s _ ss ts (Some x) e
    (judged (description_of s ss ts) x (Some e) here some')
    (same_table s ss ts (nodes_of c.add.new.self.plan) (guards_of c.add.new.self) (ap nodes_of plan) guards') refl refl)
