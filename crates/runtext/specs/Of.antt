-- What a setup describes, with the buffers that it was read into.
use Rattle.std.specs.Prelude.{◌≡◌, ℕ, ◌≤◌, List, length, take, drop, Some, None, Ok, Err, Option, Result}
use Rattle.basics.specs.declared.refusal.Refusal.{Refusal}
use Rattle.basics.specs.declared.transaction.TransactionNumber.{TransactionNumber}
use Rattle.plans.specs.Meaning.{nodes_of}
use Rattle.rules.specs.Meaning.{guards_of}
use Rattle.scripts_model.specs.declared.step.Step.{Step}
use Rattle.runtext_model.specs.Accepting.{accepted}
use Rattle.runtext_model.specs.Description.{Description}
use Rattle.runtext_model.specs.Lines.{Line}
use Rattle.runtext.specs.declared.setup.Setup.{Setup}
use Rattle.runtext.specs.Counting.{turn_count}

-- the first turns of a buffer, where there is a turn list
abbrev pub turns_in : Option ℕ → List TransactionNumber → Option (List TransactionNumber)
turns_in None ts = None
turns_in (Some n) ts = Some (take n ts)

-- the description, with the steps and turns that stand first in the buffers
abbrev pub description_of : Setup → List Step → List TransactionNumber → Description
description_of s steps turns = record {
  kind = s.kind;
  nodes = nodes_of s.table.plan;
  values = take (length (nodes_of s.table.plan)) s.values;
  guards = guards_of s.table;
  scripts = s.scripts;
  steps = take s.steps steps;
  turns = turns_in s.turns turns;
}

-- why a line was refused, and what it has left
abbrev pub why : {A : Type 0} → Result A Refusal → Option Refusal
why (Ok x) = None
why (Err e) = Some e

abbrev pub left : Description → Result Description Refusal → Description
left d (Ok e) = e
left d (Err e) = d

-- a line that says l is taken, or refused with the error of r: the setup s and the buffers become s', ss' and ts', and what stands in the
-- buffers after the steps and the turns stays
pub record Takes (s s' : Setup) (ss ss' : List Step) (ts ts' : List TransactionNumber) (l : Option Line) (r : Result (Unit {0}) Refusal) : Type 0 where
  pub answers : why r ≡ why (accepted (description_of s ss ts) l)
  pub leaves : description_of s' ss' ts' ≡ left (description_of s ss ts) (accepted (description_of s ss ts) l)
  pub more_steps : s.steps ≤ s'.steps
  pub kept_steps : drop s'.steps ss' ≡ drop s'.steps ss
  pub more_turns : turn_count s.turns ≤ turn_count s'.turns
  pub kept_turns : drop (turn_count s'.turns) ts' ≡ drop (turn_count s'.turns) ts
