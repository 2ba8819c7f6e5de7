use Rattle.std.proofs.Common.{◌≡◌, ℕ, ◌<◌, Bool, cond, not, ◌&&◌, ◌||◌, ltb, leb, map, length, take, set, ℤ, Some, None, Ok, Err, sym, refl, ap, ◌∙◌, ap₂, arith, rules}
use Rattle.std.proofs.lemmas.Bool.{or_parts, leb-false}
use Rattle.basics.specs.Refusals.{leave_unless}
use Rattle.basics.specs.declared.refusal.Refusal.TheVariants.{MisplacedLine, LimitExceeded, BadParents}
use Rattle.image_model.specs.Fields.{fits}
use Rattle.plans.specs.Building.{good_width, good_parents, node_refusal, with_node}
use Rattle.plans.specs.Meaning.{nodes_of}
use Rattle.rules.specs.Meaning.{guards_of}
use Rattle.runtext_model.specs.Accepting.{node_number}
use Rattle.runtext.specs.Forming.{node_of}
use Rattle.runtext.specs.Listing.{listed}
use Rattle.runtext.specs.Of.{description_of}
use Rattle.runtext.proofs.Limits.{bad_parents, past_one}
use Rattle.runtext.proofs.Listings.{same_word, counted}
use Rattle.runtext.proofs.Tables.{was_taken, was_refused, with_table, node_refused_alike, node_added, same_table}
use Rattle.runtext.proofs.Taking.{misplaced, judged, refused, unchanged, taken, at_result}
use Rattle.runtext.proofs.setup.Setup.node_line.Goals as goal

pub returns-then-not-takes_nodes : goal.returns-then-not-takes_nodes
returns-then-not-takes_nodes c = λ ss ts l.
    let s = c.args.self.now in
    let form = c.args.form in
    let x = node_of form in
    refused s ss ts (Some x) MisplacedLine
    (misplaced (description_of s ss ts) x
    (sym (c.takes_nodes.ensures ss ts l form.width form.value (listed form.parents.from)) ∙ c.if-not-takes_nodes.true))

pub returns-then-count-is_field : goal.returns-then-count-is_field
returns-then-count-is_field c = λ ss ts l.
    let s = c.args.self.now in
    let form = c.args.form in
    let x = node_of form in
    let ns = listed form.parents.from in
    let nodes = nodes_of s.table.plan in
    let field = c.is_field.ensures ∙ ap (λ z. good_width form.width && fits form.width z) (same_word form.value form.small) in
    let past = ap₂ (λ (a : ℕ) (b : Bool). leb 64 a || not b) (sym c.node_count-count.ensures) (sym field) ∙ c.if-count-is_field.true in
    refused s ss ts (Some x) LimitExceeded
    (judged (description_of s ss ts) x (Some LimitExceeded)
    (sym (c.takes_nodes.ensures ss ts l form.width form.value ns) ∙ c.if-not-takes_nodes.false)
    (ap (λ b. cond b (Some LimitExceeded) (cond (good_parents (length nodes) (map node_number ns)) None (Some BadParents))) past))

pub returns-then-form-count : goal.returns-then-form-count
returns-then-form-count c = λ ss ts l.
    let s = c.args.self.now in
    let form = c.args.form in
    let x = node_of form in
    let ns = listed form.parents.from in
    let nodes = nodes_of s.table.plan in
    let field = c.is_field.ensures ∙ ap (λ z. good_width form.width && fits form.width z) (same_word form.value form.small) in
    let within = ap₂ (λ (a : ℕ) (b : Bool). leb 64 a || not b) (sym c.node_count-count.ensures) (sym field) ∙ c.if-count-is_field.false in
    let room : length nodes < 64 = leb-false 64 (length nodes) (or_parts (leb 64 (length nodes)) _ within).0 in
    let bad = counted form.parents (λ n a. ltb (length nodes) a || ltb 64 n) ∙ ap (λ k. ltb k form.parents.limit || ltb 64 form.parents.count) (sym c.node_count-count.ensures) ∙ past_one c.node_count-count.result form.parents.limit 64 form.parents.count c.then-form-count.either in
    refused s ss ts (Some x) BadParents
    (judged (description_of s ss ts) x (Some BadParents)
    (sym (c.takes_nodes.ensures ss ts l form.width form.value ns) ∙ c.if-not-takes_nodes.false)
    (ap (λ b. cond b (Some LimitExceeded) (cond (good_parents (length nodes) (map node_number ns)) None (Some BadParents))) within
    ∙ ap (λ b. cond b None (Some BadParents)) (bad_parents (length nodes) ns room bad)))

pub returns : goal.returns
returns c = λ ss ts l.
    let s = c.args.self.now in
    let form = c.args.form in
    let x = node_of form in
    let w = form.width in
    let z = form.value in
    let ns = listed form.parents.from in
    let nodes = nodes_of s.table.plan in
    let same = same_word z form.small in
    let count = c.node_count-count.ensures in
    let field = c.is_field.ensures ∙ ap (λ v. good_width w && fits w v) same in
    let within = ap₂ (λ (a : ℕ) (b : Bool). leb 64 a || not b) (sym count) (sym field) ∙ c.if-count-is_field.false in
    let room : length nodes < 64 = leb-false 64 (length nodes) (or_parts (leb 64 (length nodes)) _ within).0 in
    let ps = c.nodes_in-parents.ensures in
    let given = c.nodes_in-parents.result.now in
    let none = was_taken (node_refusal nodes w given) _ (node_number (length nodes)) c.in_ok-add_node.ensures.answers in
    let none' = ap (node_refusal nodes w) (sym ps) ∙ none in
    let nodes' = c.in_ok-add_node.ensures.leaves ∙ ap (λ r. leave_unless r nodes (with_node nodes w given)) none ∙ ap (with_node nodes w) ps in
    taken s _ ss ss ts ts (Some x)
    (judged (description_of s ss ts) x None
    (sym (c.takes_nodes.ensures ss ts l w z ns) ∙ c.if-not-takes_nodes.false)
    (node_refused_alike s ss ts w z ns within ∙ none')
    ∙ ap Ok (node_added s ss ts w z ns (nodes_of c.add_node.new.self.plan) (guards_of c.add_node.new.self) (omega (arith, room, s.long)) nodes' c.in_ok-add_node.ensures.guards
    ∙ ap₂ (λ (n : ℕ) (v : ℤ). with_table s ss ts (nodes_of c.add_node.new.self.plan) (take (length (nodes_of c.add_node.new.self.plan)) (set s.values n v)) (guards_of c.add_node.new.self)) (sym count) (sym same)))
    (omega arith) refl (omega arith) refl

pub returns-in_err-add_node : goal.returns-in_err-add_node
returns-in_err-add_node c = λ ss ts l.
    let s = c.args.self.now in
    let e = c.in_err-add_node.field-0.0 in
    let is : c.from_residual.result ≡ Err e = search rules in
    let form = c.args.form in
    let x = node_of form in
    let w = form.width in
    let z = form.value in
    let ns = listed form.parents.from in
    let nodes = nodes_of s.table.plan in
    let same = same_word z form.small in
    let count = c.node_count-count.ensures in
    let field = c.is_field.ensures ∙ ap (λ v. good_width w && fits w v) same in
    let within = ap₂ (λ (a : ℕ) (b : Bool). leb 64 a || not b) (sym count) (sym field) ∙ c.if-count-is_field.false in
    let ps = c.nodes_in-parents.ensures in
    let given = c.nodes_in-parents.result.now in
    let some = was_refused (node_refusal nodes w given) (node_number (length nodes)) e c.in_err-add_node.ensures.answers in
    let some' = ap (node_refusal nodes w) (sym ps) ∙ some in
    let nodes' = c.in_err-add_node.ensures.leaves ∙ ap (λ r. leave_unless r nodes (with_node nodes w given)) some in
    at_result s _ ss ss ts ts (Some x) _ _ is (unchanged s _ ss ts (Some x) e
    (judged (description_of s ss ts) x (Some e)
    (sym (c.takes_nodes.ensures ss ts l w z ns) ∙ c.if-not-takes_nodes.false)
    (node_refused_alike s ss ts w z ns within ∙ some'))
    (same_table s ss ts (nodes_of c.add_node.new.self.plan) (guards_of c.add_node.new.self) nodes' c.in_err-add_node.ensures.guards) refl refl)
