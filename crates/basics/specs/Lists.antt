-- Lists of nodes, as a caller hands them in.
use Rattle.std.specs.Prelude.{ℕ, Bool, true, false, ◌&&◌, ◌||◌, List, [], ◌∷◌, ◌==◌, nat_lt}
use Rattle.std.specs.List.{list_all}
use Rattle.basics.specs.declared.node.NodeNumber.{NodeNumber}
use Rattle.basics.specs.Sets.{with_member}

-- every node is below the limit
abbrev pub all_below : ℕ → List NodeNumber → Bool
all_below limit ns = list_all (λ n. nat_lt n.0 limit) ns

-- each element's number is larger than that of the one before it
abbrev pub rising_by : {A : Type 0} → (A → ℕ) → List A → Bool
rising_by number [] = true
rising_by number (n ∷ []) = true
rising_by number (n ∷ (m ∷ ns)) = nat_lt (number n) (number m) && rising_by number (m ∷ ns)

-- each node is larger than the one before it
abbrev pub rising : List NodeNumber → Bool
rising ns = rising_by (λ n. n.0) ns

-- k stands in the list
abbrev pub listed : List NodeNumber → ℕ → Bool
listed [] k = false
listed (n ∷ ns) k = k == n.0 || listed ns k

-- the mask with the listed nodes added
abbrev pub gathered : ℕ → List NodeNumber → ℕ
gathered m [] = m
gathered m (n ∷ ns) = gathered (with_member 64 m n.0) ns
