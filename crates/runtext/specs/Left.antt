-- What is left of a line, and pieces cut off.
use Rattle.std.specs.Prelude.{◌≡◌, ℕ, ◌+◌, ◌<◌, ◌≤◌, List, [], ◌∷◌, length, drop, Some, None, Option}
use Rattle.runtext_model.specs.Pieces.{pieces}
use Rattle.runtext.specs.declared.part.Part.{Part}
use Rattle.runtext.specs.declared.piece.Piece.{Piece}
use Rattle.runtext.specs.declared.piece.Rest.{Rest}

-- the pieces of what is left, between its spaces; none where nothing is left
abbrev pub pieces_of : Option Piece → List (List ℕ)
pieces_of None = []
pieces_of (Some p) = pieces 32 p.part.bytes.now

unfoldable pub pieces_left : Rest → List (List ℕ)
pieces_left r = pieces_of r.0

-- how many bytes are left, with the space before them
abbrev pub size_of : Option Piece → ℕ
size_of None = 0
size_of (Some p) = 1 + length p.part.bytes.now

abbrev pub size : Rest → ℕ
size r = size_of r.0

-- it begins at this place of the text, if anything is left
abbrev pub BeginsAt : ℕ → Option Piece → Type 0
BeginsAt i None = Unit {0}
BeginsAt i (Some p) = p.part.at ≡ i

-- a piece cut in two at its first byte c
pub record Halves (c : ℕ) (p before after : Piece) : Type 0 where
  pub cut : pieces c p.part.bytes.now ≡ before.part.bytes.now ∷ pieces c after.part.bytes.now
  pub lengths : length before.part.bytes.now + 1 + length after.part.bytes.now ≡ length p.part.bytes.now
  pub begins : before.part.at ≡ p.part.at
  pub onward : after.part.at ≡ p.part.at + length before.part.bytes.now + 1

abbrev pub Cut : ℕ → Piece → Option (Piece × Piece) → Type 0
Cut c p None = pieces c p.part.bytes.now ≡ p.part.bytes.now ∷ []
Cut c p (Some (before, after)) = Halves c p before after

-- a piece without its first n bytes, if it has so many
abbrev pub Skips : ℕ → Piece → Option Piece → Type 0
Skips n p None = length p.part.bytes.now < n
Skips n p (Some after) = (n ≤ length p.part.bytes.now) × (after.part.bytes.now ≡ drop n p.part.bytes.now) × (after.part.at ≡ p.part.at + n)

-- the first piece of what is left, and the rest after it
pub record Cuts (r : Rest) (p : Part) (next : Rest) : Type 0 where
  pub cut : pieces_left r ≡ p.bytes.now ∷ pieces_left next
  pub shorter : size next < size r
  pub begins : BeginsAt p.at r.0
  pub onward : BeginsAt (p.at + length p.bytes.now + 1) next.0

abbrev pub FirstPiece : Rest → Option (Part × Rest) → Type 0
FirstPiece r None = pieces_left r ≡ []
FirstPiece r (Some (p, next)) = Cuts r p next
