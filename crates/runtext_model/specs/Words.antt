-- The words of a line: letters, numbers and slashes.
use Rattle.std.specs.Prelude.{ℕ, ◌+◌, ◌-◌, ◌*◌, Bool, true, cond, not, ◌&&◌, ◌||◌, List, [], ◌∷◌, length, drop, ℤ, pos, negsuc, Some, None, Option, ◌==◌, nat_eq, nat_le, slice_index}

-- a word, with what it says
pub data Word : Type 0 where
  letter : (c : ℕ) → Word
  number : (z : ℤ) → Word
  slash : Word

abbrev pub is_digit : ℕ → Bool
is_digit b = nat_le 48 b && nat_le b 57

abbrev pub is_capital : ℕ → Bool
is_capital b = nat_le 65 b && nat_le b 90

abbrev pub all_digits : List ℕ → Bool
all_digits [] = true
all_digits (b ∷ bs) = is_digit b && all_digits bs

-- the number that digits write after the number n
abbrev pub read_on : ℕ → List ℕ → ℕ
read_on n [] = n
read_on n (b ∷ bs) = read_on (10 * n + (b - 48)) bs

abbrev pub value : List ℕ → ℕ
value ds = read_on 0 ds

-- one to five digits, and no leading zero unless it is 0 alone
abbrev pub is_numeral : List ℕ → Bool
is_numeral ds =
    all_digits ds
    && (nat_le 1 (length ds) && (nat_le (length ds) 5 && (length ds == 1 || not (slice_index ds 0 == 48))))

-- a minus stands first
abbrev pub has_minus : List ℕ → Bool
has_minus bs = slice_index bs 0 == 45

-- a numeral, or a minus and a numeral that is not 0
abbrev pub is_number : List ℕ → Bool
is_number bs = cond (has_minus bs) (is_numeral (drop 1 bs) && not (value (drop 1 bs) == 0)) (is_numeral bs)

-- the number that it writes
abbrev pub number_value : List ℕ → ℤ
number_value bs = cond (has_minus bs) (negsuc (value (drop 1 bs) - 1)) (pos (value bs))

-- one byte, which passes the test
abbrev pub is_single : (ℕ → Bool) → List ℕ → Bool
is_single p bs = length bs == 1 && p (slice_index bs 0)

-- the word that these bytes are
abbrev pub word_of : List ℕ → Option Word
word_of bs =
    cond (is_number bs) (Some (number (number_value bs)))
    (cond (is_single is_capital bs) (Some (letter (slice_index bs 0)))
    (cond (is_single (λ b. nat_eq b 47) bs) (Some slash) None))
