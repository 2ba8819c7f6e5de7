-- What the lines of a run text have described so far.
use Rattle.std.specs.Prelude.{ℕ, List, [], ℤ, None, Option}
use Rattle.basics.specs.declared.transaction.TransactionNumber.{TransactionNumber}
use Rattle.plans.specs.declared.plan.Node.{Node}
use Rattle.rules.specs.declared.guard.Guard.{Guard}
use Rattle.scripts_model.specs.declared.step.Step.{Step}
use Rattle.runtext_model.specs.declared.kind.RuleKind.{RuleKind}

pub record Description : Type 0 where
  -- the rule, once it is named
  pub kind : Option RuleKind
  -- the nodes, and the first value of each
  pub nodes : List Node
  pub values : List ℤ
  pub guards : List Guard
  -- how many scripts there are, and their steps: each script's end first, where its S line stood
  pub scripts : ℕ
  pub steps : List Step
  -- the turn list, where there is one
  pub turns : Option (List TransactionNumber)

-- nothing yet
abbrev pub blank : Description
blank = record { kind = None; nodes = []; values = []; guards = []; scripts = 0; steps = []; turns = None }
