use Rattle.std.proofs.Common.{◌≡◌, not, ◌||◌, ltb, length, Some, None, Ok, sym, refl, ap, ◌∙◌, arith}
use Rattle.std.proofs.lemmas.Bool.{ltb-false, or_parts, and_parts, not-true}
use Rattle.basics.specs.declared.refusal.Refusal.TheVariants.{MisplacedLine, LimitExceeded}
use Rattle.plans.specs.Meaning.{nodes_of}
use Rattle.runtext_model.specs.Accepting.{is_empty, is_some, transaction}
use Rattle.runtext_model.specs.Lines.{turns}
use Rattle.runtext.specs.Listing.{listed}
use Rattle.runtext.specs.Of.{turns_in, description_of}
use Rattle.runtext.proofs.Filling.{filled_whole}
use Rattle.runtext.proofs.Limits.{turns_within, turns_past}
use Rattle.runtext.proofs.Listings.{counted}
use Rattle.runtext.proofs.Taking.{misplaced, judged, refused, taken, no_turns, with_turns}
use Rattle.runtext.proofs.setup.Setup.turns_line.Goals as goal

pub returns-then-not-takes_scripts : goal.returns-then-not-takes_scripts
returns-then-not-takes_scripts c = λ ss.
    let s = c.args.self.now in
    let ts = c.args.turns.now in
    let x = turns (listed c.args.list.from) in
    refused s ss ts (Some x) MisplacedLine (misplaced (description_of s ss ts) x (sym (c.takes_scripts.ensures ss ts) ∙ c.if-not-takes_scripts.true))

pub returns-then-list-from : goal.returns-then-list-from
returns-then-list-from c = λ ss.
    let s = c.args.self.now in
    let ts = c.args.turns.now in
    let list = c.args.list in
    let x = turns (listed list.from) in
    refused s ss ts (Some x) LimitExceeded
    (judged (description_of s ss ts) x (Some LimitExceeded) (sym (c.takes_scripts.ensures ss ts) ∙ c.if-not-takes_scripts.false)
    (turns_past s.scripts (listed list.from) (counted list (λ n a. ltb 4096 n || ltb s.scripts a) ∙ ap (λ k. ltb 4096 list.count || ltb k list.limit) (sym c.from.ensures) ∙ c.if-list-from.true)))

pub returns : goal.returns
returns c = λ ss.
    let s = c.args.self.now in
    let ts = c.args.turns.now in
    let list = c.args.list in
    let ns = listed list.from in
    let x = turns ns in
    let n = c.fill-count.result in
    let within = c.if-list-from.false in
    let few = ltb-false 4096 list.count (or_parts (ltb 4096 list.count) _ within).0 in
    let count : n ≡ length ns = omega (arith, c.fill-count.ensures.count, list.counted, few, c.requires) in
    let (front, rest) = filled_whole transaction ns ts c.fill-count.new.out n count c.fill-count.ensures.filled in
    let here = sym (c.takes_scripts.ensures ss ts) ∙ c.if-not-takes_scripts.false in
    let none = no_turns s.turns ts (not-true (is_some (turns_in s.turns ts)) (and_parts (not (is_empty (nodes_of s.table.plan))) _ here).1) in
    taken s _ ss ss ts _ (Some x)
    (judged (description_of s ss ts) x None here (turns_within s.scripts ns (counted list (λ m a. ltb 4096 m || ltb s.scripts a) ∙ ap (λ k. ltb 4096 list.count || ltb k list.limit) (sym c.from.ensures) ∙ within))
    ∙ ap (λ t. Ok (with_turns s ss t)) (sym front))
    (omega arith) refl (omega (arith, none)) rest
