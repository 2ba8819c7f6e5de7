-- An image is a row of bits: bit 0 is the top bit of byte 0, and so on without gaps.
use Rattle.std.specs.Prelude.{ℕ, zero, suc, ◌+◌, ◌-◌, ◌*◌, ◌/◌, ◌%◌, ◌^◌, Bool, cond, ◌&&◌, List, [], ◌∷◌, ◌++◌, ℤ, pos, negsuc, ◌-ℤ◌, nat_le, nat_lt, slice_index}
use Rattle.basics.specs.Sets.{has}

-- bit i of an image; past its end the bits are 0
abbrev pub image_bit : List ℕ → ℕ → Bool
image_bit image i = has (slice_index image (i / 8)) (7 - i % 8)

-- the number whose w bits are those of the row from bit `at` on, most significant bit first
abbrev pub number : (ℕ → Bool) → ℕ → ℕ → ℕ
number row at zero = 0
number row at (suc w) = 2 * number row at w + cond (row (at + w)) 1 0

-- the first m bytes of a row of bits
abbrev pub bytes : (ℕ → Bool) → ℕ → List ℕ
bytes row zero = []
bytes row (suc m) = bytes row m ++ (number row (8 * m) 8 ∷ [])

-- two's complement: what the w bits of u stand for
abbrev pub signed : ℕ → ℕ → ℤ
signed w u = cond (nat_lt u (2 ^ (w - 1))) (pos u) (pos u -ℤ pos (2 ^ w))

-- and back: the w bits of a number that lies in the range of w bits
abbrev pub bits_of : ℕ → ℤ → ℕ
bits_of w (pos n) = n
bits_of w (negsuc n) = 2 ^ w - suc n

-- the ends of what w bits hold: −2^(w−1) and 2^(w−1) − 1
abbrev pub lowest : ℕ → ℤ
lowest w = pos 0 -ℤ pos (2 ^ (w - 1))

abbrev pub highest : ℕ → ℤ
highest w = pos (2 ^ (w - 1) - 1)

-- bit i lies among the w bits from bit `at` on
abbrev pub within_field : ℕ → ℕ → ℕ → Bool
within_field at w i = nat_le at i && nat_lt i (at + w)

-- the row with the w bits from bit `at` on replaced by those of u
abbrev pub with_field : (ℕ → Bool) → ℕ → ℕ → ℕ → ℕ → Bool
with_field row at w u i = cond (within_field at w i) (has u (w - 1 - (i - at))) (row i)
