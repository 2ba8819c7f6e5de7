-- A text that is read without a fault is the text of what was read.
use Rattle.std.proofs.Common.{◌≡◌, ℕ, ◌+◌, true, false, cond, List, [], ◌∷◌, ◌++◌, length, Some, None, Ok, Err, Option, Result, sym, refl, ap, ◌∙◌, arith}
use Rattle.std.specs.List.{flat_map}
use Rattle.std.proofs.lemmas.List.{append-nil, append_assoc, flat_map_more}
use Rattle.basics.specs.declared.refusal.Refusal.{Refusal}
use Rattle.basics.specs.declared.refusal.Refusal.TheVariants.{MisplacedLine}
use Rattle.runtext_model.specs.Accepting.{is_empty, accepted}
use Rattle.runtext_model.specs.Canonical.{TextOfWhatIsRead}
use Rattle.runtext_model.specs.Description.{Description, blank}
use Rattle.runtext_model.specs.Lines.{Line, line_of}
use Rattle.runtext_model.specs.Pieces.{pieces}
use Rattle.runtext_model.specs.Reading.{Outcome, stopped, at_end, last_piece, read_lines}
use Rattle.runtext_model.specs.Writing.{joined_by, line_text, lines_of, written}
use Rattle.runtext_model.proofs.Cutting.{joined_pieces}
use Rattle.runtext_model.proofs.LineForms.{line_read}
use Rattle.runtext_model.proofs.Sections.{Ordered, blank_ordered, line_added}

-- a line's bytes and its line feed
abbrev pub fed : Line → List ℕ
fed l = line_text l ++ (10 ∷ [])

-- the text so far and what is left are the text of what will be read
abbrev GoesOn : Description → List (List ℕ) → Outcome → Type 0
GoesOn d ps o = o.fault ≡ None → written d ++ joined_by 10 ps ≡ written o.description

-- at the end of the text
at_the_end : (d : Description) (line at : ℕ) → GoesOn d [] (at_end d line at)
at_the_end d line at h =
    elim (is_empty d.nodes) as (λ b. written d ++ [] ≡ written (cond b (stopped d MisplacedLine line at []) (record { description = d; fault = None })).description) [
      | true ↦ append-nil (written d)
      | false ↦ append-nil (written d)
    ]

-- at its last piece
at_last : (d : Description) (line at : ℕ) (p : List ℕ) → GoesOn d (p ∷ []) (last_piece d line at p)
at_last d line at [] h = at_the_end d line at h
at_last d line at (b ∷ bs) h = absurd (let z : ◌≡◌ {A = ℕ} 0 1 = cc in omega arith)

-- what comes after a line, by what the line was answered
abbrev pub after_line : Description → ℕ → ℕ → List ℕ → List (List ℕ) → Result Description Refusal → Outcome
after_line d line at p ps r = elim r [
  | Ok e ↦ read_lines e (line + 1) (at + length p + 1) ps
  | Err e ↦ stopped d e line at p
]

-- the text with one more line
written_more : (d e : Description) (l : Line) → lines_of e ≡ lines_of d ++ (l ∷ []) → written e ≡ written d ++ fed l
written_more d e l h = ap (flat_map fed) h ∙ sym (flat_map_more fed [] (lines_of d) l)

-- a line feed belongs to the line before it
regroup : (before p left : List ℕ) → before ++ (p ++ (10 ∷ left)) ≡ (before ++ (p ++ (10 ∷ []))) ++ left
regroup before p left = simp append_assoc

-- past a line that is not the last piece
past_line : (d : Description) (line at : ℕ) (p q : List ℕ) (ps : List (List ℕ)) → Ordered d → ((e : Description) → Ordered e → GoesOn e (q ∷ ps) (read_lines e (line + 1) (at + length p + 1) (q ∷ ps))) → (o : Option Line) → line_of p ≡ o → (r : Result Description Refusal) → accepted d o ≡ r → GoesOn d (p ∷ (q ∷ ps)) (after_line d line at p (q ∷ ps) r)
past_line d line at p q ps ord rest o is (Err e) a h = absurd (let z : ◌≡◌ {A = ℕ} 0 1 = cc in omega arith)
past_line d line at p q ps ord rest None is (Ok e) a h = absurd (let z : ◌≡◌ {A = ℕ} 0 1 = cc in omega arith)
past_line d line at p q ps ord rest (Some l) is (Ok e) a h =
    let (more, keeps) = line_added d l e ord a in
    let here : written e ≡ written d ++ (p ++ (10 ∷ [])) =
    written_more d e l more ∙ ap (λ xs. written d ++ (xs ++ (10 ∷ []))) (line_read p l is) in
    let left = joined_by 10 (q ∷ ps) in
    regroup (written d) p left ∙ ap (λ xs. xs ++ left) (sym here) ∙ rest e keeps h

-- from any line on
goes_on : (ps : List (List ℕ)) (d : Description) (line at : ℕ) → Ordered d → GoesOn d ps (read_lines d line at ps)
goes_on [] d line at o = at_the_end d line at
goes_on (p ∷ []) d line at o = at_last d line at p
goes_on (p ∷ (q ∷ ps)) d line at o =
    past_line d line at p q ps o (λ e k. goes_on (q ∷ ps) e (line + 1) (at + length p + 1) k) (line_of p) refl (accepted d (line_of p)) refl

-- a text that is read without a fault is the text of what was read
pub text_of_what_is_read : (text : List ℕ) → TextOfWhatIsRead text
text_of_what_is_read text h = sym (joined_pieces 10 text) ∙ goes_on (pieces 10 text) blank 1 0 blank_ordered h
