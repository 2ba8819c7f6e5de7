-- The number that a part of the text writes, if it writes one.
use Rattle.std.specs.Prelude.{ℕ, ◌-◌, Bool, cond, not, ◌&&◌, ◌||◌, List, length, ℤ, pos, negsuc, ◌≤ℤ◌, Some, None, Option, ◌==◌, nat_le, slice_index}
use Rattle.runtext_model.specs.Words.{all_digits, read_on, is_numeral, value, is_number, number_value}

-- one to five bytes, and no leading zero unless it stands alone
abbrev pub sized : List ℕ → Bool
sized ds = nat_le 1 (length ds) && (nat_le (length ds) 5 && (length ds == 1 || not (slice_index ds 0 == 48)))

-- the number that digits write after the number n
unfoldable pub digits_read : ℕ → List ℕ → Option ℕ
digits_read n ds = cond (all_digits ds) (Some (read_on n ds)) None

unfoldable pub numeral_read : List ℕ → Option ℕ
numeral_read ds = cond (is_numeral ds) (Some (value ds)) None

-- what a minus before these digits writes
unfoldable pub negative_read : List ℕ → Option ℤ
negative_read ds = cond (is_numeral ds && not (value ds == 0)) (Some (negsuc (value ds - 1))) None

unfoldable pub number_read : List ℕ → Option ℤ
number_read bs = cond (is_number bs) (Some (number_value bs)) None

-- a number of at most five digits
abbrev pub Small : Option ℤ → Type 0
Small None = Unit {0}
Small (Some z) = (negsuc 99998 ≤ℤ z) × (z ≤ℤ pos 99999)
