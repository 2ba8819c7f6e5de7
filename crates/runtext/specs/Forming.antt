-- What the lines of the program say.
use Rattle.std.specs.Prelude.{ℕ, ℤ, Some, None, Option}
use Rattle.basics.specs.declared.node.NodeNumber.{NodeNumber}
use Rattle.scripts_model.specs.declared.step.Step as any
use Rattle.scripts_model.specs.declared.step.Step.TheVariants as steps
use Rattle.runtext_model.specs.declared.kind.RuleKind.{RuleKind}
use Rattle.runtext_model.specs.Accepting.{node_number}
use Rattle.runtext_model.specs.Lines.{rule, node, guard, script, step, turns}
use Rattle.runtext_model.specs.Lines as model
use Rattle.runtext.specs.declared.line.GuardForm.{GuardForm}
use Rattle.runtext.specs.declared.line.Line.{Line}
use Rattle.runtext.specs.declared.line.Line.TheVariants.{Rule, Node, Guard, Script, Step, Turns}
use Rattle.runtext.specs.declared.line.NodeForm.{NodeForm}
use Rattle.runtext.specs.declared.line.StepForm.{StepForm}
use Rattle.runtext.specs.declared.line.StepForm.TheVariants.{Lock, Release, Read, Write, Adjust}
use Rattle.runtext.specs.Listing.{listed}

abbrev pub rule_said : Option RuleKind → Option model.Line
rule_said None = None
rule_said (Some k) = Some (rule k)

-- a step of a node, as it is said
abbrev pub step_said : (NodeNumber → any.Step) → Option ℕ → Option model.Line
step_said f None = None
step_said f (Some n) = Some (step (f (node_number n)))

abbrev pub change_said : (NodeNumber → ℤ → any.Step) → Option (ℕ × ℤ) → Option model.Line
change_said f None = None
change_said f (Some (n, z)) = Some (step (f (node_number n) z))

-- the step of a form
abbrev pub step_of : StepForm → any.Step
step_of (Lock n) = steps.Lock (node_number n)
step_of (Release n) = steps.Release (node_number n)
step_of (Read n) = steps.Read (node_number n)
step_of (Write n v) = steps.Write (node_number n) v
step_of (Adjust n d) = steps.Adjust (node_number n) d

-- a node line and a guard line with these numbers
abbrev pub node_of : NodeForm → model.Line
node_of f = node f.width f.value (listed f.parents.from)

abbrev pub guard_of : GuardForm → model.Line
guard_of f = guard f.node (listed f.a.from) (listed f.b.from)

-- what a line says
abbrev pub meaning : Line → model.Line
meaning (Rule k) = rule k
meaning (Node f) = node_of f
meaning (Guard f) = guard_of f
meaning Script = script
meaning (Step f) = step (step_of f)
meaning (Turns l) = turns (listed l.from)

abbrev pub said : Option Line → Option model.Line
said None = None
said (Some l) = Some (meaning l)
