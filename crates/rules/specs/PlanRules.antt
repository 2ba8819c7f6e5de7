-- The tree rule and the majority rule of a plan.
use Rattle.std.specs.Prelude.{◌≡◌, ℕ, true, List, ◌==◌}
use Rattle.std.proofs.lemmas.Bool.{and_parts, eqb-true, ltb-true, lt-ltb}
use Rattle.basics.specs.Sets.{within}
use Rattle.basics.proofs.Masks.{within_members, majorities, single}
use Rattle.plans.specs.declared.plan.Node.{Node}
use Rattle.plans.specs.declared.plan.Plan.{Plan}
use Rattle.plans.specs.Meaning.{nodes_of}
use Rattle.rules.specs.Locking.{size, only_held, most_held, tree_allows, majority_allows}
use Rattle.rules.specs.Parents.{parents_in}
use Rattle.rules.specs.Rule.{Rule}
use Rattle.rules.specs.Ruling.{Intersects, rule_by}

-- two majorities of the parents have a parent in common
pub majority_intersects : (nodes : List Node) → Intersects nodes (majority_allows nodes)
majority_intersects nodes n locked₁ held₁ locked₂ held₂ within₁ most₁ most₂ =
    let parents = parents_in nodes n in
    let (p, up, in-first, in-second) = majorities parents held₁ held₂ 64 (ltb-true (size parents) _ most₁) (ltb-true (size parents) _ most₂) in
    (p, up, (within_members held₁ locked₁).0 within₁ p in-first, in-second)

-- the only parent is more than half of the parents
only_is_most : (parents held : ℕ) → only_held parents held ≡ true → most_held parents held ≡ true
only_is_most parents held t =
    let (one, all) = and_parts (size parents == 1) (within parents held) t in
    lt-ltb (size parents) _ (single parents held 64 (eqb-true (size parents) 1 one) all)

pub tree_intersects : (nodes : List Node) → Intersects nodes (tree_allows nodes)
tree_intersects nodes n locked₁ held₁ locked₂ held₂ within₁ only₁ only₂ =
    majority_intersects nodes n locked₁ held₁ locked₂ held₂ within₁ (only_is_most _ held₁ only₁) (only_is_most _ held₂ only₂)

abbrev pub tree_rule : Plan → Rule
tree_rule p = rule_by p (tree_allows (nodes_of p)) (tree_intersects (nodes_of p))

abbrev pub majority_rule : Plan → Rule
majority_rule p = rule_by p (majority_allows (nodes_of p)) (majority_intersects (nodes_of p))
