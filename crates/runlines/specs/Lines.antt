-- The lines that a run writes, byte for byte.
use Rattle.std.specs.Prelude.{◌≡◌, ℕ, ◌≤◌, Bool, cond, List, [], ◌∷◌, ◌++◌, map, length, Some, None, Ok, Err, codes, decimal, Option, Result}
use Rattle.std.specs.List.{range_with_len, flat_map}
use Rattle.std.specs.Fmt.{signed_decimal}
use Rattle.basics.specs.declared.refusal.Refusal.{Refusal}
use Rattle.basics.specs.Refusals.{code_of, answer_unless, leave_unless}
use Rattle.model.specs.Order.{serial_order}
use Rattle.model.specs.State.{State}
use Rattle.session.specs.declared.answer.Reply.{Reply}
use Rattle.session.specs.declared.answer.Reply.TheVariants.{Done, Waiting}
use Rattle.session.specs.Reports.{short, filled}
use Rattle.stores.specs.Store.{Store}

-- a word with a space before it
abbrev pub spaced : List ℕ → List ℕ
spaced word = 32 ∷ word

-- a first word, each other word after a space, and a line feed
abbrev pub line_of : List ℕ → List (List ℕ) → List ℕ
line_of first others = (first ++ flat_map spaced others) ++ (10 ∷ [])

-- what is answered of a line and a buffer for it: the count of its bytes, or that the buffer is too short
abbrev pub line_answer : List ℕ → List ℕ → Result ℕ Refusal
line_answer bytes buffer = answer_unless (short (length buffer) (length bytes)) (length bytes)

-- what the buffer then holds: the line and what stood after it, or all as it was
abbrev pub line_left : List ℕ → List ℕ → List ℕ
line_left bytes buffer = leave_unless (short (length buffer) (length bytes)) buffer (filled bytes buffer)

-- the line is written into the buffer, or the buffer is too short; 512 bytes are enough
pub record Writes (bytes old new : List ℕ) (r : Result ℕ Refusal) : Type 0 where
  pub answers : r ≡ line_answer bytes old
  pub leaves : new ≡ line_left bytes old
  pub fits : length bytes ≤ 512

-- a turn's two words: 0 and a number, w and the holder, the refusal's number and 0, or d and 0 where it had no answer
abbrev pub answer_words : Option (Result Reply Refusal) → List (List ℕ)
answer_words None = codes "d" ∷ (decimal 0 ∷ [])
answer_words (Some (Ok (Done x))) = decimal 0 ∷ (signed_decimal x ∷ [])
answer_words (Some (Ok (Waiting u))) = codes "w" ∷ (decimal u.0 ∷ [])
answer_words (Some (Err k)) = decimal (code_of k) ∷ (decimal 0 ∷ [])

-- whose turn it was, and what was answered
abbrev pub turn_line : ℕ → Option (Result Reply Refusal) → List ℕ
turn_line script answer = line_of (decimal script) (answer_words answer)

-- O, and the transactions in their serial order
abbrev pub order_line : State → List ℕ
order_line s = line_of (codes "O") (map decimal (serial_order s))

-- the value of each node, by rising number
abbrev pub value_words : Store → List (List ℕ)
value_words s = map (λ n. signed_decimal (s.values n)) (range_with_len 0 s.count)

-- V, and these values
abbrev pub values_line : Store → List ℕ
values_line s = line_of (codes "V") (value_words s)

-- T, how many turns there were, and 1 where all scripts are done, else 0
abbrev pub totals_line : ℕ → Bool → List ℕ
totals_line turns all_done = line_of (codes "T") (decimal turns ∷ (decimal (cond all_done 1 0) ∷ []))

-- F, the number of the refusal, and the line of the text
abbrev pub fault_line : Refusal → ℕ → List ℕ
fault_line refusal at = line_of (codes "F") (decimal (code_of refusal) ∷ (decimal at ∷ []))
