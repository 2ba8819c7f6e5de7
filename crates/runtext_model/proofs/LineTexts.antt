-- A line, written out, is read as the line.
use Rattle.std.proofs.Common.{◌≡◌, ℕ, ◌<◌, false, eqb, List, [], ◌∷◌, ◌++◌, map, length, ℤ, pos, Some, decimal, refl, ap, ◌∙◌, arith}
use Rattle.std.specs.Fmt.{signed_decimal}
use Rattle.std.specs.List.{AllByRecursion as All}
use Rattle.std.proofs.ByRecursion.{All-append, All-map, All-weaker}
use Rattle.scripts_model.specs.declared.step.Step.{Step}
use Rattle.scripts_model.specs.declared.step.Step.TheVariants.{End, Lock, Release, Read, Write, Adjust}
use Rattle.runtext_model.specs.declared.kind.RuleKind.TheVariants.{Tree, Majority, Guards}
use Rattle.runtext_model.specs.Lines.{Line, rule, node, guard, script, step, turns, and_then, as_number, unsigned, plain, numbers, two_lists, line_of_pieces, line_of}
use Rattle.runtext_model.specs.Pieces.{pieces}
use Rattle.runtext_model.specs.Words.{Word, number, slash, word_of}
use Rattle.runtext_model.specs.Writing.{word_text, numerals, line_words, joined_by, line_text}
use Rattle.runtext_model.proofs.Cutting.{Free, pieces_joined}
use Rattle.runtext_model.proofs.LineForms.{after_word}
use Rattle.runtext_model.proofs.Numbers.{Small, Plain, reads_word, word_free}

-- numbers of at most five digits
abbrev pub EachSmall : List ℕ → Type 0
EachSmall ns = All (λ n. n < 100000) ns

-- a step with such numbers
abbrev pub SmallStep : Step → Type 0
SmallStep End = ⊥
SmallStep (Lock n) = n.0 < 100000
SmallStep (Release n) = n.0 < 100000
SmallStep (Read n) = n.0 < 100000
SmallStep (Write n v) = (n.0 < 100000) × Small v
SmallStep (Adjust n d) = (n.0 < 100000) × Small d

-- a line whose numbers have at most five digits; the end of a script is no step
abbrev pub SmallLine : Line → Type 0
SmallLine (rule k) = Unit {0}
SmallLine (node w v ps) = (w < 100000) × Small v × EachSmall ps
SmallLine (guard n a b) = (n < 100000) × EachSmall a × EachSmall b
SmallLine script = Unit {0}
SmallLine (step s) = SmallStep s
SmallLine (turns ts) = EachSmall ts

-- what is written of a number, of numbers, and of two lists is read as these
reads_number : (z : ℤ) → Small z → as_number (word_of (signed_decimal z)) ≡ Some z
reads_number z h = ap as_number (reads_word (number z) h)

reads_plain : (n : ℕ) → n < 100000 → plain (decimal n) ≡ Some n
reads_plain n h = ap (λ o. and_then o unsigned) (reads_number (pos n) h)

reads_numbers : (ns : List ℕ) → EachSmall ns → numbers (map word_text (numerals ns)) ≡ Some ns
reads_numbers [] h = refl
reads_numbers (n ∷ ns) (here, rest) = rw (reads_plain n here, reads_numbers ns rest) refl

reads_lists : (a b : List ℕ) → EachSmall a → EachSmall b → two_lists (map word_text (numerals a ++ (slash ∷ numerals b))) ≡ Some (a, b)
reads_lists [] b ha hb = ap (λ o. and_then o (λ ns. Some ([], ns))) (reads_numbers b hb)
reads_lists (n ∷ a) b (here, rest) hb =
    let more = reads_lists a b rest hb in
    ap (λ o. after_word o (map word_text (numerals a ++ (slash ∷ numerals b)))) (reads_word (number (pos n)) here)
    ∙ ap (λ o. and_then o (λ l. Some ((n ∷ l.0), l.1))) more

-- the words of a line: there is one, each is plain, and their texts are read as the line
record Said (l : Line) : Type 0 where
  some : 0 < length (line_words l)
  words : All Plain (line_words l)
  back : line_of_pieces (map word_text (line_words l)) ≡ Some l

-- numerals are plain words
plains : (ns : List ℕ) → EachSmall ns → All Plain (numerals ns)
plains ns h = All-map Plain (λ n. number (pos n)) ns h

-- each step's words, and each line's
said_step : (s : Step) → SmallStep s → Said (step s)
said_step End h = absurd h
said_step (Lock n) h = record { some = omega arith; words = (refl, (h, tt)); back = rw (reads_plain n.0 h) refl }
said_step (Release n) h = record { some = omega arith; words = (refl, (h, tt)); back = rw (reads_plain n.0 h) refl }
said_step (Read n) h = record { some = omega arith; words = (refl, (h, tt)); back = rw (reads_plain n.0 h) refl }
said_step (Write n v) (h, k) = record { some = omega arith; words = (refl, (h, (k, tt))); back = rw (reads_plain n.0 h, reads_number v k) refl }
said_step (Adjust n v) (h, k) = record { some = omega arith; words = (refl, (h, (k, tt))); back = rw (reads_plain n.0 h, reads_number v k) refl }

said : (l : Line) → SmallLine l → Said l
said (rule Tree) h = record { some = omega arith; words = (refl, (refl, tt)); back = refl }
said (rule Majority) h = record { some = omega arith; words = (refl, (refl, tt)); back = refl }
said (rule Guards) h = record { some = omega arith; words = (refl, (refl, tt)); back = refl }
said (node w v ps) (a, b, c) = record {
  some = omega arith;
  words = (refl, (a, (b, plains ps c)));
  back = rw (reads_plain w a, reads_number v b, reads_numbers ps c) refl;
}
said (guard n a b) (h, j, k) = record {
  some = omega arith;
  words = (refl, (h, All-append Plain (numerals a) (slash ∷ numerals b) (plains a j) (tt, plains b k)));
  back = rw (reads_plain n h, reads_lists a b j k) refl;
}
said script h = record { some = omega arith; words = (refl, tt); back = refl }
said (step s) h = said_step s h
said (turns ts) h = record { some = omega arith; words = (refl, plains ts h); back = rw (reads_numbers ts h) refl }

-- a line's text is cut into the texts of its words
words_cut : (ws : List Word) → 0 < length ws → All Plain ws → pieces 32 (joined_by 32 (map word_text ws)) ≡ map word_text ws
words_cut [] some h = absurd (omega arith)
words_cut (w ∷ ws) some (here, rest) =
    pieces_joined 32 (word_text w) (map word_text ws) (word_free 32 w (omega arith) here)
    (All-map (Free 32) word_text ws (All-weaker Plain (λ x. Free 32 (word_text x)) (λ x h. word_free 32 x (omega arith) h) ws rest))

-- a line, written out, is read as the line
pub reads_line : (l : Line) → SmallLine l → line_of (line_text l) ≡ Some l
reads_line l h = let s = said l h in ap line_of_pieces (words_cut (line_words l) s.some s.words) ∙ s.back

-- texts without a line feed have none between them
joined_free : (ps : List (List ℕ)) → All (Free 10) ps → Free 10 (joined_by 32 ps)
joined_free [] h = tt
joined_free (p ∷ []) (here, rest) = here
joined_free (p ∷ (q ∷ ps)) (here, rest) =
    All-append (λ x. eqb x 10 ≡ false) p (32 ∷ joined_by 32 (q ∷ ps)) here (refl, joined_free (q ∷ ps) rest)

-- and it holds no line feed
pub line_free : (l : Line) → SmallLine l → Free 10 (line_text l)
line_free l h =
    joined_free (map word_text (line_words l))
    (All-map (Free 10) word_text (line_words l) (All-weaker Plain (λ x. Free 10 (word_text x)) (λ x k. word_free 10 x (omega arith) k) (line_words l) (said l h).words))
