-- When a transaction may lock a node, by each of the three rules.
use Rattle.std.specs.Prelude.{ℕ, ◌*◌, Bool, ◌&&◌, ◌||◌, List, length, ◌==◌, bit_and, nat_lt}
use Rattle.basics.specs.Sets.{has, within, counted}
use Rattle.plans.specs.declared.plan.Node.{Node}
use Rattle.rules.specs.declared.guard.Guard.{Guard}
use Rattle.rules.specs.Guards.{some_admits}
use Rattle.rules.specs.Parents.{parents_in}

-- any node of the plan may be the first lock, while nothing is locked; after it the test `later` decides
abbrev pub first_or : List Node → (ℕ → ℕ → ℕ → Bool) → ℕ → ℕ → ℕ → Bool
first_or nodes later n locked held = nat_lt n (length nodes) && (locked == 0 || later n locked held)

-- how many members the set has
abbrev pub size : ℕ → ℕ
size set = counted (has set) 64

-- there is exactly one parent, and it is held
abbrev pub only_held : ℕ → ℕ → Bool
only_held parents held = size parents == 1 && within parents held

-- more than half of the parents are held
abbrev pub most_held : ℕ → ℕ → Bool
most_held parents held = nat_lt (size parents) (2 * size (bit_and parents held))

-- the tree rule, after the first lock: the only parent is held
abbrev pub tree_allows : List Node → ℕ → ℕ → ℕ → Bool
tree_allows nodes n locked held = only_held (parents_in nodes n) held

-- the majority rule, after the first lock: more than half of the parents are held
abbrev pub majority_allows : List Node → ℕ → ℕ → ℕ → Bool
majority_allows nodes n locked held = most_held (parents_in nodes n) held

-- the guard rule, after the first lock: one of the guards admits
abbrev pub guard_allows : List Guard → ℕ → ℕ → ℕ → Bool
guard_allows guards n locked held = some_admits n locked held guards
