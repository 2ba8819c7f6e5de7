-- Edge cases of the lock rules.
use Rattle.std.specs.Prelude.{◌≡◌, ℕ, true, false, List, [], ◌∷◌, Some, None, Option}
use Rattle.basics.specs.declared.node.NodeNumber.{NodeNumber}
use Rattle.basics.specs.declared.refusal.Refusal.{Refusal}
use Rattle.basics.specs.declared.refusal.Refusal.TheVariants.{GuardsApart}
use Rattle.basics.specs.Lists.{gathered}
use Rattle.plans.specs.declared.plan.Node.{Node}
use Rattle.rules.specs.Adding.{guard_refusal, with_guard}
use Rattle.rules.specs.Locking.{first_or, majority_allows}

abbrev number : ℕ → NodeNumber
number n = record { 0 = n }

abbrev below : List NodeNumber → Node
below parents = record { width = 8; parents = record { mask = gathered 0 parents } }

-- nodes 1 to 4 under node 0, and node 5 under these four
abbrev nodes : List Node
nodes =
    below [] ∷ below (number 0 ∷ []) ∷ below (number 0 ∷ []) ∷ below (number 0 ∷ []) ∷ below (number 0 ∷ [])
    ∷ below (number 1 ∷ number 2 ∷ number 3 ∷ number 4 ∷ []) ∷ []

abbrev set : List NodeNumber → ℕ
set = gathered 0

-- of four parents two are no majority, and three are
abbrev pub MajorityOfFour : Type 0
MajorityOfFour =
    (first_or nodes (majority_allows nodes) 5 (set (number 1 ∷ number 2 ∷ number 3 ∷ number 4 ∷ [])) (set (number 1 ∷ number 2 ∷ [])) ≡ false)
    × (first_or nodes (majority_allows nodes) 5 (set (number 1 ∷ number 2 ∷ number 3 ∷ [])) (set (number 1 ∷ number 2 ∷ number 3 ∷ [])) ≡ true)

-- what a table with the guard (a, b) of node 5 says to another of node 5, if it takes the first
abbrev second : List NodeNumber → List NodeNumber → List NodeNumber → List NodeNumber → Option Refusal
second a b c d = guard_refusal nodes (with_guard [] (number 5) a b) (number 5) c d

-- the guards ({1, 2}, {2}) and ({1}, {1}) of one node do not meet
abbrev pub GuardsStandApart : Type 0
GuardsStandApart =
    (guard_refusal nodes [] (number 5) (number 1 ∷ number 2 ∷ []) (number 2 ∷ []) ≡ None)
    × (second (number 1 ∷ number 2 ∷ []) (number 2 ∷ []) (number 1 ∷ []) (number 1 ∷ []) ≡ Some GuardsApart)

-- the guards ({1, 2}, {1}) and ({1, 2}, {2}) of one node do
abbrev pub GuardsMeet : Type 0
GuardsMeet =
    (guard_refusal nodes [] (number 5) (number 1 ∷ number 2 ∷ []) (number 1 ∷ []) ≡ None)
    × (second (number 1 ∷ number 2 ∷ []) (number 1 ∷ []) (number 1 ∷ number 2 ∷ []) (number 2 ∷ []) ≡ None)
