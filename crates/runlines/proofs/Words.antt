-- Words added to a line, one after another.
use Rattle.std.proofs.Common.{◌≡◌, ℕ, List, [], ◌∷◌, ◌++◌, ap, ◌∙◌}
use Rattle.std.specs.List.{flat_map}
use Rattle.std.proofs.lemmas.List.{flat_map_more}
use Rattle.runlines.specs.declared.line.Line.{Line}
use Rattle.runlines.specs.Lines.{spaced}
use Rattle.runlines.specs.Text.{text, Added}

-- one word more
pub words_more : (first word : List ℕ) (words : List (List ℕ)) (old new : Line) → text old ≡ first ++ flat_map spaced words
    → Added old new (spaced word) → text new ≡ first ++ flat_map spaced (words ++ (word ∷ []))
words_more first word words old new e h = h.front ∙ ap (λ x. x ++ spaced word) e ∙ flat_map_more spaced first words word
