-- Reading a text line by line: the first faulty line decides.
use Rattle.std.specs.Prelude.{ℕ, ◌+◌, cond, ◌||◌, List, [], ◌∷◌, length, Some, None, Ok, Err, Option, nat_lt}
use Rattle.basics.specs.declared.refusal.Refusal.{Refusal}
use Rattle.basics.specs.declared.refusal.Refusal.TheVariants.{ShortBuffer, TextTooLong, MalformedLine, MisplacedLine}
use Rattle.runtext_model.specs.Accepting.{is_empty, accepted}
use Rattle.runtext_model.specs.Description.{Description, blank}
use Rattle.runtext_model.specs.Lines.{line_of}
use Rattle.runtext_model.specs.Pieces.{pieces}

-- why a text is refused, the number of the faulty line, and that line: its bytes and where they begin in the text
pub record Fault : Type 0 where
  pub refusal : Refusal
  pub line : ℕ
  pub at : ℕ
  pub bytes : List ℕ

-- what was read: all that the lines before a fault described, and the fault if there is one
pub record Outcome : Type 0 where
  pub description : Description
  pub fault : Option Fault

abbrev pub stopped : Description → Refusal → ℕ → ℕ → List ℕ → Outcome
stopped d e line at bytes = record { description = d; fault = Some (record { refusal = e; line = line; at = at; bytes = bytes }) }

-- the text ends here: it must have described a node, and so a rule
abbrev pub at_end : Description → ℕ → ℕ → Outcome
at_end d line at = cond (is_empty d.nodes) (stopped d MisplacedLine line at []) (record { description = d; fault = None })

-- what stands after the last line feed must be nothing
abbrev pub last_piece : Description → ℕ → ℕ → List ℕ → Outcome
last_piece d line at [] = at_end d line at
last_piece d line at (b ∷ bs) = stopped d MalformedLine line at (b ∷ bs)

-- the pieces between line feeds, from line number `line` on, which begins at the place `at`
abbrev pub read_lines : Description → ℕ → ℕ → List (List ℕ) → Outcome
read_lines d line at [] = at_end d line at
read_lines d line at (p ∷ []) = last_piece d line at p
read_lines d line at (p ∷ (q ∷ ps)) = elim (accepted d (line_of p)) [
  | Ok e ↦ read_lines e (line + 1) (at + length p + 1) (q ∷ ps)
  | Err e ↦ stopped d e line at p
]

-- what a text says
abbrev pub read_text : List ℕ → Outcome
read_text text = read_lines blank 1 0 (pieces 10 text)

-- why nothing is read: a lent buffer is too short for steps or turns, or the text is too long
abbrev pub unread : ℕ → ℕ → ℕ → Option Refusal
unread steps turns text = cond (nat_lt steps 1024 || nat_lt turns 4096) (Some ShortBuffer) (cond (nat_lt 16384 text) (Some TextTooLong) None)
