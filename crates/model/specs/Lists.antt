-- Lists of transactions.
use Rattle.std.specs.Prelude.{◌≡◌, ℕ, ◌⊎◌, List, [], ◌∷◌}

-- t stands in the list
abbrev pub In : ℕ → List ℕ → Type 0
In t [] = ⊥
In t (x ∷ xs) = (t ≡ x) ⊎ In t xs

-- u stands before t in the list
abbrev pub Before : ℕ → ℕ → List ℕ → Type 0
Before u t [] = ⊥
Before u t (x ∷ xs) = ((u ≡ x) × In t xs) ⊎ Before u t xs

-- none stands twice in the list
abbrev pub Distinct : List ℕ → Type 0
Distinct [] = Unit {0}
Distinct (x ∷ xs) = (In x xs → ⊥) × Distinct xs
