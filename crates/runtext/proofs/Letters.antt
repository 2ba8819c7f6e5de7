-- A line by its first letter.
use Rattle.std.proofs.Common.{◌≡◌, ℕ, List, [], ◌∷◌, Some, None, refl, ap}
use Rattle.runtext_model.specs.Lines.{by_first, line_of_pieces}
use Rattle.runtext.specs.declared.part.Part.{Part}
use Rattle.runtext.specs.declared.word.Word.TheVariants.{Letter, Number, Slash}
use Rattle.runtext.specs.declared.word.Word as program
use Rattle.runtext.specs.Finding.{first_word}
use Rattle.runtext.specs.Meaning.{means}

pub no_letter : (ps : List (List ℕ)) → first_word ps ≡ None → line_of_pieces ps ≡ None
no_letter [] e = refl
no_letter (p ∷ ps) e = ap (λ o. by_first o ps) e

pub other_first : (w : program.Word) (ps : List (List ℕ)) → ((p : Part) → w ≡ Letter p → ⊥) → by_first (Some (means w)) ps ≡ None
other_first (Letter p) ps f = absurd (f p refl)
other_first (Number p) ps f = refl
other_first (Slash p) ps f = refl
