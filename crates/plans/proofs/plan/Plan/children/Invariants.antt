use Rattle.std.proofs.Common.{◌≡◌, ℕ, ◌&&◌, ltb}
use Rattle.basics.specs.Sets.{has}
use Rattle.plans.specs.Meaning.{nodes_of}
use Rattle.plans.specs.Nodes.{is_parent}
use Rattle.plans.proofs.plan.Plan.children.Given as goal

abbrev pub invariant-loop-k : goal.invariant-loop-k
invariant-loop-k l = (j : ℕ) → has l.children.mask j ≡ (ltb j l.k && is_parent (nodes_of l.self) l.n.0 j)
