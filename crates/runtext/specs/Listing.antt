-- Numbers, as they stand in a line.
use Rattle.std.specs.Prelude.{◌≡◌, ℕ, ◌+◌, ◌<◌, max, List, [], ◌∷◌, drop, ℤ, Some, None, Option}
use Rattle.runtext_model.specs.Lines.{as_number, plain}
use Rattle.runtext_model.specs.Words.{word_of}
use Rattle.runtext.specs.declared.piece.Rest.{Rest}
use Rattle.runtext.specs.Left.{pieces_left, size}
use Rattle.runtext.specs.Numerals.{Small}

-- the number that a piece is
unfoldable pub number_in : List ℕ → Option ℤ
number_in p = as_number (word_of p)

-- and where it has no minus
unfoldable pub plain_in : List ℕ → Option ℕ
plain_in p = plain p

abbrev pub first_number : List (List ℕ) → Option ℤ
first_number [] = None
first_number (p ∷ ps) = number_in p

abbrev pub first_plain : List (List ℕ) → Option ℕ
first_plain [] = None
first_plain (p ∷ ps) = plain_in p

-- what is left after the first piece
pub record Follows (r next : Rest) : Type 0 where
  pub rest : pieces_left next ≡ drop 1 (pieces_left r)
  pub shorter : size next < size r

-- the number that stands first
abbrev pub NumberFound : Rest → Option (ℤ × Rest) → Type 0
NumberFound r None = first_number (pieces_left r) ≡ None
NumberFound r (Some (z, next)) = (first_number (pieces_left r) ≡ Some z) × Follows r next × Small (Some z)

abbrev pub PlainFound : Rest → Option (ℕ × Rest) → Type 0
PlainFound r None = first_plain (pieces_left r) ≡ None
PlainFound r (Some (n, next)) = (first_plain (pieces_left r) ≡ Some n) × Follows r next × (n < 100000)

-- the plain numbers that stand first
abbrev pub front : List (List ℕ) → List ℕ
front [] = []
front (p ∷ ps) = elim (plain_in p) [ None ↦ [] | Some n ↦ n ∷ front ps ]

-- the pieces after them
abbrev pub behind : List (List ℕ) → List (List ℕ)
behind [] = []
behind (p ∷ ps) = elim (plain_in p) [ None ↦ p ∷ ps | Some n ↦ behind ps ]

-- the numbers of the list that stands first
unfoldable pub listed : Rest → List ℕ
listed r = front (pieces_left r)

-- the least limit from m on that all numbers are below
abbrev pub above : ℕ → List ℕ → ℕ
above m [] = m
above m (n ∷ ns) = above (max m (n + 1)) ns
