-- What a word of the program says.
use Rattle.std.specs.Prelude.{◌≡◌, true, length, Some, None, Option, slice_index}
use Rattle.runtext_model.specs.Words.{letter, number, slash, number_value, word_of, is_number}
use Rattle.runtext_model.specs.Words as words
use Rattle.runtext.specs.declared.part.Part.{Part}
use Rattle.runtext.specs.declared.word.Word.{Word}
use Rattle.runtext.specs.declared.word.Word.TheVariants.{Letter, Number, Slash}

-- the word says what its bytes write
abbrev pub means : Word → words.Word
means (Letter p) = letter (slice_index p.bytes.now 0)
means (Number p) = number (number_value p.bytes.now)
means (Slash p) = slash

-- the part of the text that a word is
abbrev pub part_of : Word → Part
part_of (Letter p) = p
part_of (Number p) = p
part_of (Slash p) = p

-- a letter is one byte, and a number writes one
abbrev pub Formed : Word → Type 0
Formed (Letter p) = length p.bytes.now ≡ 1
Formed (Number p) = is_number p.bytes.now ≡ true
Formed (Slash p) = Unit {0}

-- the word that is a part of the text, if that part is one
abbrev pub Says : Part → Option Word → Type 0
Says p None = word_of p.bytes.now ≡ None
Says p (Some w) = (word_of p.bytes.now ≡ Some (means w)) × Formed w × (part_of w ≡ p)
