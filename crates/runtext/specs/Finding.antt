-- The word that stands first in what is left of a line.
use Rattle.std.specs.Prelude.{◌≡◌, ℕ, List, [], ◌∷◌, Some, None, Option}
use Rattle.runtext_model.specs.Words.{Word, word_of}
use Rattle.runtext.specs.declared.piece.Rest.{Rest}
use Rattle.runtext.specs.declared.word.Word as program
use Rattle.runtext.specs.Left.{pieces_left, Cuts}
use Rattle.runtext.specs.Meaning.{means, part_of, Formed}

-- the word that the first piece is
abbrev pub first_word : List (List ℕ) → Option Word
first_word [] = None
first_word (p ∷ ps) = word_of p

-- the first piece is this word
pub record Finds (r : Rest) (w : program.Word) (next : Rest) : Type 0 where
  pub cuts : Cuts r (part_of w) next
  pub says : word_of (part_of w).bytes.now ≡ Some (means w)
  pub formed : Formed w

abbrev pub WordFound : Rest → Option (program.Word × Rest) → Type 0
WordFound r None = first_word (pieces_left r) ≡ None
WordFound r (Some (w, next)) = Finds r w next
