-- What a plan means: its nodes, in the order of their numbers.
use Rattle.std.specs.Prelude.{List}
use Rattle.plans.specs.declared.plan.Node.{Node}
use Rattle.plans.specs.declared.plan.Plan.{Plan}
use Rattle.plans.specs.Placed.{nodes_in}

abbrev pub nodes_of : Plan → List Node
nodes_of p = nodes_in p.nodes.items
