-- The format is canonical: every description has one text, and no other text is read as it.
use Rattle.std.specs.Prelude.{◌≡◌, ℕ, ◌+◌, ◌<◌, ◌≤◌, Bool, true, false, List, [], ◌∷◌, length, pos, Some, None, Option, slice_index_or}
use Rattle.basics.specs.declared.transaction.TransactionNumber.{TransactionNumber}
use Rattle.basics.specs.Sets.{has}
use Rattle.image_model.specs.Fields.{fits}
use Rattle.plans.specs.Building.{good_width}
use Rattle.plans.specs.Nodes.{node_at}
use Rattle.rules.specs.Guards.{no_guard, crosses}
use Rattle.rules.specs.Guards as guards
use Rattle.rules.specs.Parents.{parents_in}
use Rattle.scripts_model.specs.declared.step.Step.{Step}
use Rattle.scripts_model.specs.declared.step.Step.TheVariants.{End, Lock, Release, Read, Write, Adjust}
use Rattle.runtext_model.specs.Accepting.{good_step, is_some, is_guards}
use Rattle.runtext_model.specs.Description.{Description}
use Rattle.runtext_model.specs.Reading.{read_text}
use Rattle.runtext_model.specs.Writing.{written}

-- how many scripts begin in a step buffer
abbrev pub ends : List Step → ℕ
ends [] = 0
ends (End ∷ ss) = 1 + ends ss
ends (Lock n ∷ ss) = ends ss
ends (Release n ∷ ss) = ends ss
ends (Read n ∷ ss) = ends ss
ends (Write n v ∷ ss) = ends ss
ends (Adjust n d ∷ ss) = ends ss

-- the end of a script, or a good step
abbrev pub good_entry : ℕ → Step → Bool
good_entry count End = true
good_entry count (Lock n) = good_step count (Lock n)
good_entry count (Release n) = good_step count (Release n)
good_entry count (Read n) = good_step count (Read n)
good_entry count (Write n v) = good_step count (Write n v)
good_entry count (Adjust n d) = good_step count (Adjust n d)

-- a turn list of at most 4,096 turns, each of one of the scripts
abbrev pub GoodTurns : ℕ → Option (List TransactionNumber) → Type 0
GoodTurns scripts None = Unit {0}
GoodTurns scripts (Some ts) =
    (length ts ≤ 4096) × ((i : ℕ) → i < length ts → (slice_index_or ts i (record { 0 = 0 })).0 < scripts)

-- a whole description within all limits
pub record Lawful (d : Description) : Type 0 where
  pub ruled : is_some d.kind ≡ true
  -- 1 to 64 nodes, each with a width, lower parents, a parent unless it is node 0, and a first value that fits
  pub some : 0 < length d.nodes
  pub few : length d.nodes ≤ 64
  pub wide : (n : ℕ) → n < length d.nodes → good_width (node_at d.nodes n).width ≡ true
  pub lower : (n p : ℕ) → n < length d.nodes → has (parents_in d.nodes n) p ≡ true → p < n
  pub rooted : (n : ℕ) → 0 < n → n < length d.nodes → 0 < parents_in d.nodes n
  pub valued : length d.values ≡ length d.nodes
  pub fit : (n : ℕ) → n < length d.nodes → fits (node_at d.nodes n).width (slice_index_or d.values n (pos 0)) ≡ true
  -- guards only under the guard rule: at most 256, of nodes of the plan, each within its rules, each two of one node crossing
  pub guarded : is_guards d.kind ≡ false → d.guards ≡ []
  pub few_guards : length d.guards ≤ 256
  pub known : (i : ℕ) → i < length d.guards → (slice_index_or d.guards i no_guard).node.0 < length d.nodes
  pub sound : (i : ℕ) → i < length d.guards → guards.fits (parents_in d.nodes (slice_index_or d.guards i no_guard).node.0) (slice_index_or d.guards i no_guard) ≡ true
  pub cross : (i j : ℕ) → i < length d.guards → j < length d.guards → crosses (slice_index_or d.guards i no_guard) (slice_index_or d.guards j no_guard) ≡ true
  -- at most 32 scripts of at most 1,024 steps, ends counted, the first entry an end
  pub first : 0 < length d.steps → slice_index_or d.steps 0 (Lock (record { 0 = 0 })) ≡ End
  pub few_steps : length d.steps ≤ 1024
  pub few_scripts : d.scripts ≤ 32
  pub counted : d.scripts ≡ ends d.steps
  pub good : (i : ℕ) → i < length d.steps → good_entry (length d.nodes) (slice_index_or d.steps i End) ≡ true
  pub turned : GoodTurns d.scripts d.turns

-- a text that is read without a fault is the text of what was read
abbrev pub TextOfWhatIsRead : List ℕ → Type 0
TextOfWhatIsRead text = (read_text text).fault ≡ None → text ≡ written (read_text text).description

-- a lawful description, written out and read, comes back without a fault
abbrev pub ReadsBack : Description → Type 0
ReadsBack d = Lawful d → read_text (written d) ≡ record { description = d; fault = None }

-- for every text and every description
abbrev pub Canonical : Type 0
Canonical = ((text : List ℕ) → TextOfWhatIsRead text) × ((d : Description) → ReadsBack d)
