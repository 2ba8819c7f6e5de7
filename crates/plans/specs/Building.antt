-- Adding a node to a plan.
use Rattle.std.specs.Prelude.{ℕ, Bool, cond, not, ◌&&◌, ◌||◌, List, [], ◌∷◌, ◌++◌, length, Some, None, Option, ◌==◌, nat_le}
use Rattle.basics.specs.declared.node.NodeNumber.{NodeNumber}
use Rattle.basics.specs.declared.refusal.Refusal.{Refusal}
use Rattle.basics.specs.declared.refusal.Refusal.TheVariants.{LimitExceeded, BadParents}
use Rattle.basics.specs.Lists.{all_below, rising, gathered}
use Rattle.plans.specs.declared.plan.Node.{Node}

-- a width from 2 to 16 bits
abbrev pub good_width : ℕ → Bool
good_width width = nat_le 2 width && nat_le width 16

-- what node n may have for its parents: rising, lower than n, and at least one unless n is 0
abbrev pub good_parents : ℕ → List NodeNumber → Bool
good_parents n parents = rising parents && (all_below n parents && (n == 0 || not (length parents == 0)))

-- why a node is refused, in the order of looking
abbrev pub node_refusal : List Node → ℕ → List NodeNumber → Option Refusal
node_refusal nodes width parents =
    cond (nat_le 64 (length nodes) || not (good_width width)) (Some LimitExceeded)
    (cond (good_parents (length nodes) parents) None (Some BadParents))

-- the nodes with one more at the end
abbrev pub with_node : List Node → ℕ → List NodeNumber → List Node
with_node nodes width parents = nodes ++ (record { width = width; parents = record { mask = gathered 0 parents } } ∷ [])
