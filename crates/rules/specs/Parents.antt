-- The parents of a plan's nodes.
use Rattle.std.specs.Prelude.{◌≡◌, ℕ, ◌<◌, ◌≤◌, true, List, length}
use Rattle.std.proofs.Common.{ap}
use Rattle.std.proofs.lemmas.List.{get_or_past}
use Rattle.basics.specs.Sets.{has}
use Rattle.plans.specs.declared.plan.Node.{Node}
use Rattle.plans.specs.declared.plan.Plan.{Plan}
use Rattle.plans.specs.Meaning.{nodes_of}
use Rattle.plans.specs.Nodes.{no_node, node_at}

-- the parents of node n, as a set; none where there is no node n
abbrev pub parents_in : List Node → ℕ → ℕ
parents_in nodes n = (node_at nodes n).parents.mask

pub no_parents : (nodes : List Node) (n : ℕ) → length nodes ≤ n → parents_in nodes n ≡ 0
no_parents nodes n past = ap (λ x. x.parents.mask) (get_or_past nodes n no_node past)

pub few : (p : Plan) → length (nodes_of p) ≤ 64
few p = p.few

pub lower : (p : Plan) (n k : ℕ) → has (parents_in (nodes_of p) n) k ≡ true → k < n
lower p = p.lower
