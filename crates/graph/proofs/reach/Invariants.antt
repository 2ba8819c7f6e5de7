use Rattle.std.proofs.Common.{◌-◌, ◌^◌, ◌<◌}
use Rattle.graph.proofs.Search.{Sofar}
use Rattle.graph.proofs.reach.Given as goal

abbrev pub invariant-loop-i : goal.invariant-loop-i
invariant-loop-i g l = record {
  sofar : Sofar (g.G.Graph.edge l.graph) (g.G.Points.NumberSet.mask l.fn.start) (g.G.Points.NumberSet.mask l.seen) (g.G.Points.NumberSet.mask l.followed);
  fits : g.G.Points.NumberSet.mask l.followed < 2 ^ g.G.Points.NumberSet.WIDTH;
}

-- each turn adds a point to those that were followed
abbrev pub decreases-loop-i : goal.decreases-loop-i
decreases-loop-i g l = 2 ^ g.G.Points.NumberSet.WIDTH - g.G.Points.NumberSet.mask l.followed
