-- A text read line by line.
use Rattle.std.proofs.Common.{◌≡◌, ℕ, ◌+◌, ◌-◌, ◌≤◌, List, [], ◌∷◌, length, drop, Some, None, Ok, Err, Result, sym, refl, ap, ◌∙◌, arith}
use Rattle.std.proofs.lemmas.List.{drop-drop}
use Rattle.std.proofs.lemmas.Bool.{cond_both}
use Rattle.basics.specs.declared.refusal.Refusal.{Refusal}
use Rattle.basics.specs.declared.refusal.Refusal.TheVariants.{MisplacedLine}
use Rattle.runtext_model.specs.Accepting.{is_empty, accepted}
use Rattle.runtext_model.specs.Description.{Description}
use Rattle.runtext_model.specs.Lines.{line_of}
use Rattle.runtext_model.specs.Pieces.{pieces}
use Rattle.runtext_model.specs.Reading.{Outcome, stopped, last_piece, read_lines}
use Rattle.runtext.specs.declared.piece.Piece.{Piece}
use Rattle.runtext.specs.Left.{Halves}
use Rattle.runtext.specs.Of.{why, left}
use Rattle.runtext.proofs.Cutting.{some_piece}

was_taken : (d : Description) (x : Result Description Refusal) → None ≡ why x → x ≡ Ok (left d x)
was_taken d (Ok e) h = refl
was_taken d (Err e) h = cc

was_refused : (x : Result Description Refusal) (e : Refusal) → Some e ≡ why x → x ≡ Err e
was_refused (Ok d) e h = cc
was_refused (Err f) e h = cc

-- one line, where more follows it
abbrev after_line : Description → ℕ → ℕ → List ℕ → List (List ℕ) → Result Description Refusal → Outcome
after_line d line at p qs x = elim x as (λ _. Outcome) [
  | Ok e ↦ read_lines e (line + 1) (at + length p + 1) qs
  | Err e ↦ stopped d e line at p
]

one_line : (d : Description) (line at : ℕ) (p : List ℕ) (qs : List (List ℕ)) → (qs ≡ [] → ⊥) → read_lines d line at (p ∷ qs) ≡ after_line d line at p qs (accepted d (line_of p))
one_line d line at p [] h = absurd (h refl)
one_line d line at p (q ∷ qs) h = refl

-- the piece before a line feed, and what follows
module _ (p before after : Piece) (h : Halves 10 p before after) where
  abbrev line_bytes : List ℕ
  line_bytes = before.part.bytes.now

  abbrev rest : List (List ℕ)
  rest = pieces 10 after.part.bytes.now

  step : (d : Description) (line : ℕ) → read_lines d line p.part.at (pieces 10 p.part.bytes.now) ≡ after_line d line p.part.at line_bytes rest (accepted d (line_of line_bytes))
  step d line = ap (read_lines d line p.part.at) h.cut ∙ one_line d line p.part.at line_bytes rest (some_piece 10 after.part.bytes.now)

  pub line_taken : (d : Description) (line : ℕ) → None ≡ why (accepted d (line_of line_bytes))
      → read_lines (left d (accepted d (line_of line_bytes))) (line + 1) after.part.at rest ≡ read_lines d line p.part.at (pieces 10 p.part.bytes.now)
  line_taken d line e =
      sym (step d line ∙ ap (after_line d line p.part.at line_bytes rest) (was_taken d (accepted d (line_of line_bytes)) e)
      ∙ ap (λ i. read_lines (left d (accepted d (line_of line_bytes))) (line + 1) i rest) (sym h.onward))

  pub line_refused : (d : Description) (line : ℕ) (e : Refusal) → Some e ≡ why (accepted d (line_of line_bytes))
      → read_lines d line p.part.at (pieces 10 p.part.bytes.now) ≡ stopped d e line before.part.at line_bytes
  line_refused d line e r =
      step d line ∙ ap (after_line d line p.part.at line_bytes rest) (was_refused (accepted d (line_of line_bytes)) e r)
      ∙ ap (λ i. stopped d e line i line_bytes) (sym h.begins)

-- what is kept after one place is kept after a later one
pub kept_later : {X : Type 0} (m n : ℕ) (xs ys zs : List X) → m ≤ n → drop n xs ≡ drop n ys → drop m ys ≡ drop m zs → drop n xs ≡ drop n zs
kept_later m n xs ys zs l e f =
    let k : m + (n - m) ≡ n = omega arith in
    e ∙ ap (λ i. drop i ys) (sym k) ∙ sym (drop-drop (n - m) m ys) ∙ ap (drop (n - m)) f ∙ drop-drop (n - m) m zs ∙ ap (λ i. drop i zs) k

-- the end of the text adds nothing
pub last_description : (d : Description) (line at : ℕ) (p : List ℕ) → (last_piece d line at p).description ≡ d
last_description d line at [] = cond_both (is_empty d.nodes) (stopped d MisplacedLine line at []) (record { description = d; fault = None }) (λ (o : Outcome). o.description ≡ d) (λ t. refl) (λ t. refl)
last_description d line at (b ∷ bs) = refl

-- a refused line has left the description as it was
pub left_refused : (d : Description) (x : Result Description Refusal) (e : Refusal) → Some e ≡ why x → left d x ≡ d
left_refused d x e h = ap (left d) (was_refused x e h)
