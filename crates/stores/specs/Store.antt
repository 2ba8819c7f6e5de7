-- What a node store means.
use Rattle.std.specs.Prelude.{◌≡◌, ℕ, ◌≤◌, Bool, cond, ◌&&◌, ℤ, pos, negsuc, ◌≤ℤ◌, ◌==◌, int_le, nat_lt}

pub record Store : Type 0 where
  -- how many nodes it has
  pub count : ℕ
  -- the value of each node
  pub values : ℕ → ℤ
  -- the range of each node, from low to high
  pub low : ℕ → ℤ
  pub high : ℕ → ℤ

-- v lies in the range of node n
abbrev pub in_range : Store → ℕ → ℤ → Bool
in_range s n v = int_le (s.low n) v && int_le v (s.high n)

-- the store with v at node n
abbrev pub set_value : Store → ℕ → ℤ → Store
set_value s n v = record { count = s.count; values = λ m. cond (m == n) v (s.values m); low = s.low; high = s.high }

-- whether v may be put at node n
abbrev pub may_put : Store → ℕ → ℤ → Bool
may_put s n v = nat_lt n s.count && in_range s n v

-- v replaces the value exactly where n is below the count and v lies in its range
abbrev pub put : Store → ℕ → ℤ → Store
put s n v = cond (may_put s n v) (set_value s n v) s

-- z has at most 16 bits, signed
abbrev pub Small : ℤ → Type 0
Small z = (negsuc 32767 ≤ℤ z) × (z ≤ℤ pos 32767)

-- what holds of every store: at most 64 nodes, numbers of at most 16 bits, and 0 at or beyond the count
pub record Lawful (s : Store) : Type 0 where
  pub few : s.count ≤ 64
  pub small_value : (n : ℕ) → Small (s.values n)
  pub small_low : (n : ℕ) → Small (s.low n)
  pub small_high : (n : ℕ) → Small (s.high n)
  pub no_value : (n : ℕ) → s.count ≤ n → s.values n ≡ pos 0
  pub no_low : (n : ℕ) → s.count ≤ n → s.low n ≡ pos 0
  pub no_high : (n : ℕ) → s.count ≤ n → s.high n ≡ pos 0
