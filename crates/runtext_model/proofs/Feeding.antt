-- Lines that are taken one after the other, and their text.
use Rattle.std.proofs.Common.{◌≡◌, ℕ, ◌+◌, true, false, List, [], ◌∷◌, ◌++◌, length, Some, None, Ok, sym, refl, ap, ◌∙◌, subst}
use Rattle.std.specs.List.{flat_map}
use Rattle.std.proofs.lemmas.List.{append_assoc}
use Rattle.std.proofs.lemmas.Bool.{cond-true, cond-false}
use Rattle.basics.specs.Refusals.{answer_unless}
use Rattle.runtext_model.specs.Accepting.{is_empty, in_section, line_refusal, with_line, accepted}
use Rattle.runtext_model.specs.Description.{Description}
use Rattle.runtext_model.specs.Lines.{Line, line_of}
use Rattle.runtext_model.specs.Pieces.{pieces}
use Rattle.runtext_model.specs.Reading.{read_lines}
use Rattle.runtext_model.specs.Writing.{line_text}
use Rattle.runtext_model.proofs.Cutting.{Cut, some_piece, pieces_first}
use Rattle.runtext_model.proofs.LineTexts.{SmallLine, reads_line, line_free}
use Rattle.runtext_model.proofs.Readings.{fed, after_line}

-- the lines are accepted one after the other, and lead from one description to the other
abbrev pub Takes : Description → List Line → Description → Type 0
Takes d [] e = d ≡ e
Takes d (l ∷ ls) e = SmallLine l × (accepted d (Some l) ≡ Ok (with_line d l)) × Takes (with_line d l) ls e

-- one line, and then the others
pub takes_one : (d e f : Description) (l : Line) (ls : List Line) → SmallLine l → in_section d l ≡ true → line_refusal d l ≡ None → with_line d l ≡ e → Takes e ls f → Takes d (l ∷ ls) f
takes_one d e f l ls small placed unrefused same rest = (
  small,
  cond-true (in_section d l) _ _ placed ∙ ap (λ r. answer_unless r (with_line d l)) unrefused,
  subst (λ x. Takes x ls f) (sym same) rest,
)

-- lines, and then others
pub takes_append : (ls ms : List Line) (d e f : Description) → Takes d ls e → Takes e ms f → Takes d (ls ++ ms) f
takes_append [] ms d e f first next = subst (λ x. Takes x ms f) (sym first) next
takes_append (l ∷ ls) ms d e f (small, ok, rest) next = (small, ok, takes_append ls ms (with_line d l) e f rest next)

-- reading a line that is not the last piece
read_one : (d : Description) (line at : ℕ) (p : List ℕ) (ps : List (List ℕ)) → Cut ps → read_lines d line at (p ∷ ps) ≡ after_line d line at p ps (accepted d (line_of p))
read_one d line at p [] k = let w = k.whole in cc
read_one d line at p (q ∷ ps) k = refl

-- the text of lines that are taken is read to its end
pub takes_read : (ls : List Line) (d e : Description) (line at : ℕ) → Takes d ls e → is_empty e.nodes ≡ false → read_lines d line at (pieces 10 (flat_map fed ls)) ≡ record { description = e; fault = None }
takes_read [] d e line at same some =
    cond-false (is_empty d.nodes) _ _ (ap (λ (x : Description). is_empty x.nodes) same ∙ some)
    ∙ ap (λ (x : Description). record { description = x; fault = None }) same
takes_read (l ∷ ls) d e line at (small, ok, rest) some =
    let p = line_text l in
    let left = flat_map fed ls in
    let cut : pieces 10 ((p ++ (10 ∷ [])) ++ left) ≡ p ∷ pieces 10 left =
    ap (pieces 10) (append_assoc p (10 ∷ []) left) ∙ pieces_first 10 p left (line_free l small) in
    ap (read_lines d line at) cut
    ∙ read_one d line at p (pieces 10 left) (some_piece 10 left)
    ∙ ap (λ o. after_line d line at p (pieces 10 left) (accepted d o)) (reads_line l small)
    ∙ ap (after_line d line at p (pieces 10 left)) ok
    ∙ takes_read ls (with_line d l) e (line + 1) (at + length p + 1) rest some
