-- Nodes of a plan.
use Rattle.std.specs.Prelude.{ℕ, zero, suc, ◌+◌, Bool, List, [], ◌∷◌, slice_index_or}
use Rattle.basics.specs.Sets.{has}
use Rattle.plans.specs.declared.plan.Node.{Node}

-- what stands at a number that no node has
abbrev pub no_node : Node
no_node = record { width = 0; parents = record { mask = 0 } }

-- the node with the number n; past the end `no_node`
abbrev pub node_at : List Node → ℕ → Node
node_at nodes n = slice_index_or nodes n no_node

-- p is a parent of n
abbrev pub is_parent : List Node → ℕ → ℕ → Bool
is_parent nodes p n = has (node_at nodes n).parents.mask p

-- the bits of all nodes with smaller numbers together: where the field of node n starts in an image
abbrev pub field_start : List Node → ℕ → ℕ
field_start [] n = 0
field_start (x ∷ xs) zero = 0
field_start (x ∷ xs) (suc n) = x.width + field_start xs n
