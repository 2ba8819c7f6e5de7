-- A node or a guard more in the table of a setup.
use Rattle.std.proofs.Common.{◌≡◌, ℕ, ◌+◌, ◌<◌, Bool, false, cond, not, ◌&&◌, ◌||◌, leb, List, map, length, take, set, ℤ, Some, None, Ok, Err, Option, sym, refl, ap, ◌∙◌, ap₂}
use Rattle.std.proofs.lemmas.List.{length_push, take_more_set}
use Rattle.std.proofs.lemmas.Bool.{or_parts, and_parts, not-false}
use Rattle.basics.specs.declared.refusal.Refusal.{Refusal}
use Rattle.basics.specs.declared.refusal.Refusal.TheVariants.{LimitExceeded, BadParents}
use Rattle.basics.specs.declared.transaction.TransactionNumber.{TransactionNumber}
use Rattle.basics.specs.Refusals.{answer_unless}
use Rattle.image_model.specs.Fields.{fits}
use Rattle.plans.specs.declared.plan.Node.{Node}
use Rattle.plans.specs.Building.{good_width, good_parents, node_refusal, with_node}
use Rattle.plans.specs.Meaning.{nodes_of}
use Rattle.rules.specs.declared.guard.Guard.{Guard}
use Rattle.rules.specs.Meaning.{guards_of}
use Rattle.runtext_model.specs.Accepting.{node_number, line_refusal, with_line}
use Rattle.runtext_model.specs.Description.{Description}
use Rattle.runtext_model.specs.Lines.{node}
use Rattle.scripts_model.specs.declared.step.Step.{Step}
use Rattle.runtext.specs.declared.setup.Setup.{Setup}
use Rattle.runtext.specs.Of.{turns_in, description_of}

pub was_taken : {A : Type 0} (r : Option Refusal) (a b : A) → Ok a ≡ answer_unless r b → r ≡ None
was_taken None a b h = refl
was_taken (Some x) a b h = cc

pub was_refused : {A : Type 0} (r : Option Refusal) (a : A) (e : Refusal) → Err e ≡ answer_unless r a → r ≡ Some e
was_refused None a e h = cc
was_refused (Some x) a e h = cc

-- the description of a setup, with other nodes, values and guards
abbrev pub with_table : Setup → List Step → List TransactionNumber → List Node → List ℤ → List Guard → Description
with_table s ss ts nodes values guards = record {
  kind = s.kind;
  nodes = nodes;
  values = values;
  guards = guards;
  scripts = s.scripts;
  steps = take s.steps ss;
  turns = turns_in s.turns ts;
}

module _ (s : Setup) (ss : List Step) (ts : List TransactionNumber) where
  abbrev old_nodes : List Node
  old_nodes = nodes_of s.table.plan

  abbrev old_guards : List Guard
  old_guards = guards_of s.table

  -- a field of the right width and value is refused as the plan refuses it
  pub node_refused_alike : (w : ℕ) (z : ℤ) (ns : List ℕ) → (leb 64 (length old_nodes) || not (good_width w && fits w z)) ≡ false
      → line_refusal (description_of s ss ts) (node w z ns) ≡ node_refusal old_nodes w (map node_number ns)
  node_refused_alike w z ns t =
      let (few, field) = or_parts (leb 64 (length old_nodes)) _ t in
      let wide = (and_parts (good_width w) _ (not-false _ field)).0 in
      let rest = cond (good_parents (length old_nodes) (map node_number ns)) None (Some BadParents) in
      ap (λ b. cond b (Some LimitExceeded) rest) t ∙ sym (ap₂ (λ (a b : Bool). cond (a || not b) (Some LimitExceeded) rest) few wide)

  -- the description with the node, from the table with the node
  pub node_added : (w : ℕ) (z : ℤ) (ns : List ℕ) (nodes : List Node) (guards : List Guard) → length old_nodes < length s.values
      → nodes ≡ with_node old_nodes w (map node_number ns) → guards ≡ old_guards
      → with_line (description_of s ss ts) (node w z ns) ≡ with_table s ss ts nodes (take (length nodes) (set s.values (length old_nodes) z)) guards
  node_added w z ns nodes guards l e g =
      let new = with_node old_nodes w (map node_number ns) in
      let long : length new ≡ length old_nodes + 1 = length_push old_nodes _ in
      sym (ap₂ (λ (x : List Node) (y : List Guard). with_table s ss ts x (take (length x) (set s.values (length old_nodes) z)) y) e g
      ∙ ap (λ n. with_table s ss ts new (take n (set s.values (length old_nodes) z)) old_guards) long
      ∙ ap (λ vs. with_table s ss ts new vs old_guards) (take_more_set s.values (length old_nodes) z l))

  -- nothing is added where the table stays
  pub same_table : (nodes : List Node) (guards : List Guard) → nodes ≡ old_nodes → guards ≡ old_guards
      → with_table s ss ts nodes (take (length nodes) s.values) guards ≡ description_of s ss ts
  same_table nodes guards e g = ap₂ (λ (x : List Node) (y : List Guard). with_table s ss ts x (take (length x) s.values) y) e g
