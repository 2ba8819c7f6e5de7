-- What a lock rule means.
use Rattle.std.specs.Prelude.{◌≡◌, ℕ, ◌<◌, ◌≤◌, Bool, true, false, ◌≢◌}
use Rattle.basics.specs.Sets.{has, within}

pub record Rule : Type 0 where
  -- how many nodes it knows
  pub count : ℕ
  -- the parents of each node, as a set
  pub parents : ℕ → ℕ
  -- whether a transaction may lock a node, given the set that it has locked so far and the set that it still holds
  pub allows : ℕ → ℕ → ℕ → Bool
  pub few : count ≤ 64
  -- at or beyond the count there are no parents, and the answer is no
  pub no_parents : (n : ℕ) → count ≤ n → parents n ≡ 0
  pub no_lock : (n locked held : ℕ) → count ≤ n → allows n locked held ≡ false
  -- every parent is lower than its node
  pub lower : (n p : ℕ) → has (parents n) p ≡ true → p < n
  -- the intersection law: of two that may lock n, neither as its first node and each holding only what it has locked,
  -- the first has locked a parent of n that the second holds
  pub intersect :
      (n locked₁ held₁ locked₂ held₂ : ℕ) →
      (locked₁ ≢ 0) → within held₁ locked₁ ≡ true → allows n locked₁ held₁ ≡ true →
      (locked₂ ≢ 0) → within held₂ locked₂ ≡ true → allows n locked₂ held₂ ≡ true →
      (p : ℕ) × (has (parents n) p ≡ true) × (has locked₁ p ≡ true) × (has held₂ p ≡ true)
