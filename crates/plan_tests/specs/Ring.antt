-- A graph with a loop, for the tests.
use Rattle.std.specs.Prelude.{ℕ, ◌^◌, Bool, cond, ◌==◌}
use Rattle.basics.specs.Sets.{has}

-- 0 → 1 → 2 → 0, and 63 → 63
abbrev pub ring_edge : ℕ → ℕ → Bool
ring_edge i j =
    has (cond (i == 0) 2 (cond (i == 1) 4 (cond (i == 2) 1 (cond (i == 63) (2 ^ 63) 0)))) j
