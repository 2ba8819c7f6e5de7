-- What reading answers and leaves.
use Rattle.std.specs.Prelude.{◌≡◌, List, [], drop, Some, None, Ok, Err, Option, Result}
use Rattle.basics.specs.declared.refusal.Refusal.{Refusal}
use Rattle.basics.specs.declared.transaction.TransactionNumber.{TransactionNumber}
use Rattle.scripts_model.specs.declared.step.Step.{Step}
use Rattle.runtext_model.specs.Description.{Description}
use Rattle.runtext_model.specs.Reading.{Outcome}
use Rattle.runtext_model.specs.Reading as reading
use Rattle.runtext.specs.declared.fault.Fault.{Fault}
use Rattle.runtext.specs.declared.setup.Setup.{Setup}
use Rattle.runtext.specs.Counting.{turn_count}
use Rattle.runtext.specs.Of.{description_of}

-- the fault that was answered: its part of the text by place and bytes
abbrev pub fault_of : Result (Unit {0}) Fault → Option reading.Fault
fault_of (Ok x) = None
fault_of (Err f) = Some (record { refusal = f.refusal; line = f.line; at = f.part.at; bytes = f.part.bytes.now })

-- a text that is not looked at has its fault at line 0, with an empty part
abbrev pub fault_unless : Option Refusal → Outcome → Option reading.Fault
fault_unless None o = o.fault
fault_unless (Some e) o = Some (record { refusal = e; line = 0; at = 0; bytes = [] })

-- the setup and the buffers describe what was read, and what stands in the buffers after the steps and the turns stays
pub record Describes (d : Description) (s : Setup) (ss ss' : List Step) (ts ts' : List TransactionNumber) : Type 0 where
  pub described : description_of s ss' ts' ≡ d
  pub kept_steps : drop s.steps ss' ≡ drop s.steps ss
  pub kept_turns : drop (turn_count s.turns) ts' ≡ drop (turn_count s.turns) ts

-- a text that is not looked at leaves all as it was
abbrev pub LeftBy : Option Refusal → Outcome → Setup → Setup → List Step → List Step → List TransactionNumber → List TransactionNumber → Type 0
LeftBy None o s s' ss ss' ts ts' = Describes o.description s' ss ss' ts ts'
LeftBy (Some e) o s s' ss ss' ts ts' = (s' ≡ s) × (ss' ≡ ss) × (ts' ≡ ts)
