-- Adding a guard to a table.
use Rattle.std.specs.Prelude.{Bool, cond, not, ◌&&◌, List, [], ◌∷◌, ◌++◌, length, Some, None, Option, nat_lt}
use Rattle.basics.specs.declared.node.NodeNumber.{NodeNumber}
use Rattle.basics.specs.declared.refusal.Refusal.{Refusal}
use Rattle.basics.specs.declared.refusal.Refusal.TheVariants.{LimitExceeded, BadGuard, GuardsApart}
use Rattle.basics.specs.Lists.{all_below, rising, gathered}
use Rattle.plans.specs.declared.plan.Node.{Node}
use Rattle.rules.specs.declared.guard.Guard.{Guard}
use Rattle.rules.specs.Guards.{fits, all_compatible}
use Rattle.rules.specs.Parents.{parents_in}

-- the guard that a caller's lists stand for
abbrev pub guard_from : NodeNumber → List NodeNumber → List NodeNumber → Guard
guard_from n a b = record { node = n; a = record { mask = gathered 0 a }; b = record { mask = gathered 0 b } }

-- there is room for one more guard, and only nodes of the plan are named
abbrev pub in_limits : List Node → List Guard → NodeNumber → List NodeNumber → List NodeNumber → Bool
in_limits nodes guards n a b =
    nat_lt (length guards) 256 && (nat_lt n.0 (length nodes) && (all_below (length nodes) a && all_below (length nodes) b))

-- both lists rise, and their sets make a guard
abbrev pub good_guard : List Node → NodeNumber → List NodeNumber → List NodeNumber → Bool
good_guard nodes n a b = rising a && (rising b && fits (parents_in nodes n.0) (guard_from n a b))

-- why a guard is refused, in the order of looking
abbrev pub guard_refusal : List Node → List Guard → NodeNumber → List NodeNumber → List NodeNumber → Option Refusal
guard_refusal nodes guards n a b =
    cond (not (in_limits nodes guards n a b)) (Some LimitExceeded)
    (cond (not (good_guard nodes n a b)) (Some BadGuard)
    (cond (not (all_compatible (guard_from n a b) guards)) (Some GuardsApart) None))

-- the guards with one more at the end
abbrev pub with_guard : List Guard → NodeNumber → List NodeNumber → List NodeNumber → List Guard
with_guard guards n a b = guards ++ (guard_from n a b ∷ [])
