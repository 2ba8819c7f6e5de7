-- The parents of a plan with one node more.
use Rattle.std.proofs.Common.{◌≡◌, ℕ, ◌<◌, List, [], ◌∷◌, ◌++◌, length, Some, None, Option, refl, ap, arith}
use Rattle.std.proofs.lemmas.List.{get_or_append_left, length_push}
use Rattle.basics.specs.declared.refusal.Refusal.{Refusal}
use Rattle.basics.specs.Refusals.{leave_unless}
use Rattle.plans.specs.declared.plan.Node.{Node}
use Rattle.plans.specs.Nodes.{no_node}
use Rattle.rules.specs.Parents.{parents_in}

-- a plan with one node more, unless that is refused, has the nodes that it had, with the same parents
pub longer_plan : (r : Option Refusal) (nodes : List Node) (x : Node) (n : ℕ) → n < length nodes → n < length (leave_unless r nodes (nodes ++ (x ∷ [])))
longer_plan None nodes x n l = omega (arith, length_push nodes x)
longer_plan (Some e) nodes x n l = l

pub same_parents : (r : Option Refusal) (nodes : List Node) (x : Node) (n : ℕ) → n < length nodes → parents_in (leave_unless r nodes (nodes ++ (x ∷ []))) n ≡ parents_in nodes n
same_parents None nodes x n l = ap (λ y. y.parents.mask) (get_or_append_left nodes (x ∷ []) no_node n l)
same_parents (Some e) nodes x n l = refl
