-- Walks in a finite graph.
use Rattle.std.specs.Prelude.{◌≡◌, ℕ, zero, suc, Bool, true, ◌↔◌}
use Rattle.basics.specs.Sets.{has}

-- a walk of n edges leads from a point of the set `start` to j
abbrev pub Walk : (ℕ → ℕ → Bool) → ℕ → ℕ → ℕ → Type 0
Walk edge start zero j = has start j ≡ true
Walk edge start (suc n) j = (i : ℕ) × (Walk edge start n i × (edge i j ≡ true))

-- the members of r are exactly the points that a walk from `start` reaches
abbrev pub Reached : (ℕ → ℕ → Bool) → ℕ → ℕ → Type 0
Reached edge start r = (j : ℕ) → (has r j ≡ true) ↔ ((n : ℕ) × Walk edge start n j)
