-- What a line that is being built holds.
use Rattle.std.specs.Prelude.{◌≡◌, ℕ, ◌+◌, List, [], ◌∷◌, ◌++◌, length, decimal}
use Rattle.std.specs.Fmt.{signed_decimal}
use Rattle.runlines.specs.declared.line.Line.{Line}
use Rattle.runlines.specs.declared.word.Word.{Word}
use Rattle.runlines.specs.declared.word.Word.TheVariants.{Letter, Number, Value}

-- its bytes so far
abbrev pub text : Line → List ℕ
text l = l.bytes.items

-- the new line is the old one with these bytes added
pub record Added (old new : Line) (bytes : List ℕ) : Type 0 where
  pub front : text new ≡ text old ++ bytes
  pub longer : length (text new) ≡ length (text old) + length bytes

-- the bytes of a word
abbrev pub spelling : Word → List ℕ
spelling (Letter b) = b ∷ []
spelling (Number n) = decimal n
spelling (Value z) = signed_decimal z
