-- The nodes below a node.
use Rattle.std.specs.Prelude.{◌≡◌, ℕ, zero, suc, ◌<◌, true, cond, ◌||◌, List, length, ◌==◌, nat_lt}
use Rattle.basics.specs.Sets.{meets, with_member}
use Rattle.plans.specs.declared.plan.Node.{Node}
use Rattle.plans.specs.Nodes.{node_at, is_parent}

-- a chain of `l` parents leads from k up to n
abbrev pub Chain : List Node → ℕ → ℕ → ℕ → Type 0
Chain nodes n zero k = k ≡ n
Chain nodes n (suc l) k = (p : ℕ) × (Chain nodes n l p × (is_parent nodes p k ≡ true))

-- n is a node, and k is n or a descendant of n
abbrev pub Below : List Node → ℕ → ℕ → Type 0
Below nodes n k = (n < length nodes) × ((l : ℕ) × Chain nodes n l k)

-- the set `found`, with node k where k is n or has a parent in the set
abbrev pub below_next : List Node → ℕ → ℕ → ℕ → ℕ
below_next nodes n k found =
    cond (k == n || meets (node_at nodes k).parents.mask found) (with_member 64 found k) found

-- n and its descendants among the first k nodes: parents are lower, so one pass upward finds them
abbrev pub below_among : List Node → ℕ → ℕ → ℕ
below_among nodes n zero = 0
below_among nodes n (suc k) = below_next nodes n k (below_among nodes n k)

-- n and all its descendants; the empty set where n is no node
abbrev pub below_set : List Node → ℕ → ℕ
below_set nodes n = cond (nat_lt n (length nodes)) (below_among nodes n (length nodes)) 0
