-- A report of predecessors as a graph.
use Rattle.std.specs.Prelude.{ℕ, Bool, slice_index_or}
use Rattle.basics.specs.Sets.{has}
use Rattle.model.specs.State.{transactions}
use Rattle.session.specs.declared.precedence.Predecessors.{Predecessors}

-- the predecessors of t, as a mask
abbrev pub reported : Predecessors → ℕ → ℕ
reported p t = (slice_index_or p.of t (transactions 0)).mask

-- an edge leads from t to each of its predecessors
abbrev pub edge_to : Predecessors → ℕ → ℕ → Bool
edge_to p t u = has (reported p t) u
