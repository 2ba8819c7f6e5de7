-- Sets of small numbers as masks: bit n of the mask says whether n is a member.
use Rattle.std.specs.Prelude.{ℕ, zero, suc, ◌+◌, ◌-◌, ◌/◌, ◌%◌, ◌^◌, Bool, cond, not, ◌==◌, bit_and, bit_or, nat_lt}

-- n is a member of the set
abbrev pub has : ℕ → ℕ → Bool
has m n = m / 2 ^ n % 2 == 1

-- the set with n added, where n is below the set's width
abbrev pub with_member : ℕ → ℕ → ℕ → ℕ
with_member width m n = cond (nat_lt n width) (bit_or m (2 ^ n)) m

-- the set with n removed
abbrev pub without_member : ℕ → ℕ → ℕ → ℕ
without_member width m n = cond (nat_lt n width) (bit_and m (2 ^ width - 1 - 2 ^ n)) m

-- every member of a is one of b
abbrev pub within : ℕ → ℕ → Bool
within a b = bit_and a b == a

-- a and b have a member in common
abbrev pub meets : ℕ → ℕ → Bool
meets a b = not (bit_and a b == 0)

-- how many numbers below k have the property
abbrev pub counted : (ℕ → Bool) → ℕ → ℕ
counted p zero = 0
counted p (suc k) = counted p k + cond (p k) 1 0
