-- The nodes of a plan as it keeps them, with their places.
use Rattle.std.specs.Prelude.{List, map}
use Rattle.plans.specs.declared.plan.Node.{Node}
use Rattle.plans.specs.declared.plan.PlacedNode.{PlacedNode}

-- what stands at a number that no node has
abbrev pub not_placed : PlacedNode
not_placed = record { width = 0; start = 0; parents = record { mask = 0 } }

-- a node without its place
abbrev pub node_of : PlacedNode → Node
node_of x = record { width = x.width; parents = x.parents }

abbrev pub nodes_in : List PlacedNode → List Node
nodes_in xs = map node_of xs
