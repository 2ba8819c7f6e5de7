-- The forms of a line as text, and back.
use Rattle.std.proofs.Common.{◌≡◌, ℕ, cond, eqb, List, [], ◌∷◌, ◌++◌, map, ℤ, pos, negsuc, Some, None, decimal, Option, sym, refl, ap, ◌∙◌, inl, inr}
use Rattle.std.specs.Fmt.{signed_decimal}
use Rattle.std.proofs.lemmas.Bool.{cases_Bool, cond-true, cond-false, eqb-true}
use Rattle.basics.specs.declared.node.NodeNumber.{NodeNumber}
use Rattle.scripts_model.specs.declared.step.Step.{Step}
use Rattle.scripts_model.specs.declared.step.Step.TheVariants.{Lock, Release, Read, Write, Adjust}
use Rattle.runtext_model.specs.declared.kind.RuleKind.TheVariants.{Tree, Majority, Guards}
use Rattle.runtext_model.specs.Lines.{Line, rule, node, guard, step, turns, and_then, as_number, unsigned, plain, numbers, kind_of, kind_word, rule_line, node_line, two_lists, guard_line, script_line, step_line, change_line, turns_line, form, by_first, line_of_pieces, line_of}
use Rattle.runtext_model.specs.Pieces.{pieces}
use Rattle.runtext_model.specs.Words.{Word, letter, number, slash, word_of}
use Rattle.runtext_model.specs.Writing.{word_text, numerals, step_words, line_words, joined_by, line_text}
use Rattle.runtext_model.proofs.Cutting.{joined_pieces}
use Rattle.runtext_model.proofs.Numbers.{some_same, none_some, word_read}

-- what is said after something was said
then_some : {A B : Type 0} (o : Option A) (f : A → Option B) (y : B) → and_then o f ≡ Some y → (x : A) × (o ≡ Some x) × (f x ≡ Some y)
then_some None f y h = absurd (none_some h)
then_some (Some x) f y h = (x, refl, h)

-- a word that is a number is written as it stood
number_read : (o : Option Word) (z : ℤ) → as_number o ≡ Some z → o ≡ Some (number z)
number_read None z h = absurd (none_some h)
number_read (Some (letter c)) z h = absurd (none_some h)
number_read (Some (number y)) z h = ap (λ x. Some (number x)) (some_same h)
number_read (Some slash) z h = absurd (none_some h)

-- a piece that is a number is what is written of it
as_read : (p : List ℕ) (z : ℤ) → as_number (word_of p) ≡ Some z → signed_decimal z ≡ p
as_read p z h = word_read p (number z) (number_read (word_of p) z h)

-- a number without a minus
unsigned_read : (z : ℤ) (n : ℕ) → unsigned z ≡ Some n → z ≡ pos n
unsigned_read (pos m) n h = ap pos (some_same h)
unsigned_read (negsuc m) n h = absurd (none_some h)

-- a piece that is a number without a minus is what is written of it
plain_read : (p : List ℕ) (n : ℕ) → plain p ≡ Some n → decimal n ≡ p
plain_read p n h =
    let (z, is, un) = then_some (as_number (word_of p)) unsigned n h in
    ap signed_decimal (sym (unsigned_read z n un)) ∙ as_read p z is

-- pieces that are numbers are what is written of them
numbers_read : (ps : List (List ℕ)) (ns : List ℕ) → numbers ps ≡ Some ns → map word_text (numerals ns) ≡ ps
numbers_read [] ns h = ap (λ xs. map word_text (numerals xs)) (sym (some_same h))
numbers_read (p ∷ ps) ns h =
    let (n, first, k) = then_some (plain p) (λ n. and_then (numbers ps) (λ ns. Some (n ∷ ns))) ns h in
    let (ms, rest, e) = then_some (numbers ps) (λ ns. Some (n ∷ ns)) ns k in
    let one = plain_read p n first in
    let more = numbers_read ps ms rest in
    ap (λ xs. map word_text (numerals xs)) (sym (some_same e)) ∙ cc

-- the texts of a list, a slash and a list
abbrev two_texts : List ℕ → List ℕ → List (List ℕ)
two_texts a b = map word_text (numerals a ++ (slash ∷ numerals b))

-- what two lists are after a first word
abbrev pub after_word : Option Word → List (List ℕ) → Option (List ℕ × List ℕ)
after_word o ps = elim o [
  | None ↦ None
  | Some (letter c) ↦ None
  | Some (number z) ↦ and_then (unsigned z) (λ n. and_then (two_lists ps) (λ l. Some ((n ∷ l.0), l.1)))
  | Some slash ↦ and_then (numbers ps) (λ b. Some ([], b))
]

-- by the first word: a number, or the slash
lists_after : (p : List ℕ) (ps : List (List ℕ)) (l : List ℕ × List ℕ) → ((k : List ℕ × List ℕ) → two_lists ps ≡ Some k → two_texts k.0 k.1 ≡ ps) → (o : Option Word) → word_of p ≡ o → after_word o ps ≡ Some l → two_texts l.0 l.1 ≡ p ∷ ps
lists_after p ps l rest None e h = absurd (none_some h)
lists_after p ps l rest (Some (letter c)) e h = absurd (none_some h)
lists_after p ps l rest (Some (number z)) e h =
    let (n, un, k) = then_some (unsigned z) (λ n. and_then (two_lists ps) (λ l. Some ((n ∷ l.0), l.1))) l h in
    let (m, two, same) = then_some (two_lists ps) (λ l. Some ((n ∷ l.0), l.1)) l k in
    let one : decimal n ≡ p = ap signed_decimal (sym (unsigned_read z n un)) ∙ word_read p (number z) e in
    let more = rest m two in
    let q : ((n ∷ m.0), m.1) ≡ l = some_same same in
    ap (λ (x : List ℕ × List ℕ). two_texts x.0 x.1) (sym q) ∙ cc
lists_after p ps l rest (Some slash) e h =
    let (b, all, same) = then_some (numbers ps) (λ b. Some ([], b)) l h in
    let one : 47 ∷ [] ≡ p = word_read p slash e in
    let more = numbers_read ps b all in
    let q : ([], b) ≡ l = some_same same in
    ap (λ (x : List ℕ × List ℕ). two_texts x.0 x.1) (sym q) ∙ cc

-- pieces that are two lists are what is written of them
lists_read : (ps : List (List ℕ)) (l : List ℕ × List ℕ) → two_lists ps ≡ Some l → two_texts l.0 l.1 ≡ ps
lists_read [] l h = absurd (none_some h)
lists_read (p ∷ ps) l h = lists_after p ps l (lists_read ps) (word_of p) refl h

-- the texts of a line's words
abbrev texts : Line → List (List ℕ)
texts l = map word_text (line_words l)

-- a test of the letter: the form there, or what else it is
tested : {P : Type 0} (c k : ℕ) (x y : Option Line) (l : Line) → (c ≡ k → x ≡ Some l → P) → (y ≡ Some l → P) → cond (eqb c k) x y ≡ Some l → P
tested c k x y l here else h = elim (cases_Bool (eqb c k)) [
  | inl t ↦ here (eqb-true c k t) (sym (cond-true (eqb c k) x y t) ∙ h)
  | inr f ↦ else (sym (cond-false (eqb c k) x y f) ∙ h)
]

-- the letters of a rule line
kind_read : (c : ℕ) (l : Line) → kind_of c ≡ Some l → texts l ≡ (77 ∷ []) ∷ ((c ∷ []) ∷ [])
kind_read c l =
    tested c 84 (Some (rule Tree)) (cond (eqb c 77) (Some (rule Majority)) (cond (eqb c 71) (Some (rule Guards)) None)) l
    (λ q h. let e = some_same h in ap texts (sym e) ∙ cc)
    (tested c 77 (Some (rule Majority)) (cond (eqb c 71) (Some (rule Guards)) None) l
    (λ q h. let e = some_same h in ap texts (sym e) ∙ cc)
    (tested c 71 (Some (rule Guards)) None l (λ q h. let e = some_same h in ap texts (sym e) ∙ cc) (λ h. absurd (none_some h))))

-- the word of a rule line
kind_word_read : (p : List ℕ) (l : Line) (o : Option Word) → word_of p ≡ o → kind_word o ≡ Some l → texts l ≡ (77 ∷ []) ∷ (p ∷ [])
kind_word_read p l None e h = absurd (none_some h)
kind_word_read p l (Some (letter c)) e h = let w = word_read p (letter c) e in kind_read c l h ∙ cc
kind_word_read p l (Some (number z)) e h = absurd (none_some h)
kind_word_read p l (Some slash) e h = absurd (none_some h)

-- each form in turn: its pieces are the texts of the line's words
rule_read : (ps : List (List ℕ)) (l : Line) → rule_line ps ≡ Some l → texts l ≡ (77 ∷ []) ∷ ps
rule_read [] l h = absurd (none_some h)
rule_read (p ∷ []) l h = kind_word_read p l (word_of p) refl h
rule_read (p ∷ (q ∷ ps)) l h = absurd (none_some h)

node_read : (ps : List (List ℕ)) (l : Line) → node_line ps ≡ Some l → texts l ≡ (78 ∷ []) ∷ ps
node_read [] l h = absurd (none_some h)
node_read (w ∷ []) l h = absurd (none_some h)
node_read (w ∷ (v ∷ ps)) l h =
    let (width, a, k) = then_some (plain w) (λ width. and_then (as_number (word_of v)) (λ value. and_then (numbers ps) (λ parents. Some (node width value parents)))) l h in
    let (value, b, m) = then_some (as_number (word_of v)) (λ value. and_then (numbers ps) (λ parents. Some (node width value parents))) l k in
    let (parents, c, same) = then_some (numbers ps) (λ parents. Some (node width value parents)) l m in
    let one = plain_read w width a in
    let two = as_read v value b in
    let more = numbers_read ps parents c in
    ap texts (sym (some_same same)) ∙ cc

guard_read : (ps : List (List ℕ)) (l : Line) → guard_line ps ≡ Some l → texts l ≡ (71 ∷ []) ∷ ps
guard_read [] l h = absurd (none_some h)
guard_read (n ∷ ps) l h =
    let (m, a, k) = then_some (plain n) (λ m. and_then (two_lists ps) (λ l. Some (guard m l.0 l.1))) l h in
    let (two, b, same) = then_some (two_lists ps) (λ l. Some (guard m l.0 l.1)) l k in
    let one = plain_read n m a in
    let more = lists_read ps two b in
    ap texts (sym (some_same same)) ∙ cc

script_read : (ps : List (List ℕ)) (l : Line) → script_line ps ≡ Some l → texts l ≡ (83 ∷ []) ∷ ps
script_read [] l h = ap texts (sym (some_same h))
script_read (p ∷ ps) l h = absurd (none_some h)

step_read : (c : ℕ) (f : NodeNumber → Step) → ((n : NodeNumber) → step_words (f n) ≡ letter c ∷ numerals (n.0 ∷ [])) → (ps : List (List ℕ)) (l : Line) → step_line f ps ≡ Some l → texts l ≡ (c ∷ []) ∷ ps
step_read c f words [] l h = absurd (none_some h)
step_read c f words (n ∷ []) l h =
    let (m, a, same) = then_some (plain n) (λ m. Some (step (f (record { 0 = m })))) l h in
    let one = plain_read n m a in
    ap texts (sym (some_same same)) ∙ ap (map word_text) (words (record { 0 = m })) ∙ cc
step_read c f words (n ∷ (p ∷ ps)) l h = absurd (none_some h)

change_read : (c : ℕ) (f : NodeNumber → ℤ → Step) → ((n : NodeNumber) (z : ℤ) → step_words (f n z) ≡ letter c ∷ number (pos n.0) ∷ number z ∷ []) → (ps : List (List ℕ)) (l : Line) → change_line f ps ≡ Some l → texts l ≡ (c ∷ []) ∷ ps
change_read c f words [] l h = absurd (none_some h)
change_read c f words (n ∷ []) l h = absurd (none_some h)
change_read c f words (n ∷ (v ∷ [])) l h =
    let (m, a, k) = then_some (plain n) (λ m. and_then (as_number (word_of v)) (λ z. Some (step (f (record { 0 = m }) z)))) l h in
    let (z, b, same) = then_some (as_number (word_of v)) (λ z. Some (step (f (record { 0 = m }) z))) l k in
    let one = plain_read n m a in
    let two = as_read v z b in
    ap texts (sym (some_same same)) ∙ ap (map word_text) (words (record { 0 = m }) z) ∙ cc
change_read c f words (n ∷ (v ∷ (p ∷ ps))) l h = absurd (none_some h)

turns_read : (ps : List (List ℕ)) (l : Line) → turns_line ps ≡ Some l → texts l ≡ (81 ∷ []) ∷ ps
turns_read ps l h =
    let (ts, a, same) = then_some (numbers ps) (λ ts. Some (turns ts)) l h in
    let more = numbers_read ps ts a in
    ap texts (sym (some_same same)) ∙ cc

-- whatever the letter is
form_read : (c : ℕ) (ps : List (List ℕ)) (l : Line) → form c ps ≡ Some l → texts l ≡ (c ∷ []) ∷ ps
form_read c ps l =
    tested c 77 _ _ l (λ q h. rw q (rule_read ps l h))
    (tested c 78 _ _ l (λ q h. rw q (node_read ps l h))
    (tested c 71 _ _ l (λ q h. rw q (guard_read ps l h))
    (tested c 83 _ _ l (λ q h. rw q (script_read ps l h))
    (tested c 76 _ _ l (λ q h. rw q (step_read 76 Lock (λ n. refl) ps l h))
    (tested c 85 _ _ l (λ q h. rw q (step_read 85 Release (λ n. refl) ps l h))
    (tested c 82 _ _ l (λ q h. rw q (step_read 82 Read (λ n. refl) ps l h))
    (tested c 87 _ _ l (λ q h. rw q (change_read 87 Write (λ n z. refl) ps l h))
    (tested c 65 _ _ l (λ q h. rw q (change_read 65 Adjust (λ n z. refl) ps l h))
    (tested c 81 _ _ l (λ q h. rw q (turns_read ps l h)) (λ h. absurd (none_some h)))))))))))

-- whatever the first word is
first_read : (p : List ℕ) (ps : List (List ℕ)) (l : Line) (o : Option Word) → word_of p ≡ o → by_first o ps ≡ Some l → texts l ≡ p ∷ ps
first_read p ps l None e h = absurd (none_some h)
first_read p ps l (Some (letter c)) e h = form_read c ps l h ∙ ap (λ x. x ∷ ps) (word_read p (letter c) e)
first_read p ps l (Some (number z)) e h = absurd (none_some h)
first_read p ps l (Some slash) e h = absurd (none_some h)

-- the pieces of a line that was read are the texts of its words
pieces_read : (ps : List (List ℕ)) (l : Line) → line_of_pieces ps ≡ Some l → texts l ≡ ps
pieces_read [] l h = absurd (none_some h)
pieces_read (p ∷ ps) l h = first_read p ps l (word_of p) refl h

-- a line that was read is written as it stood
pub line_read : (p : List ℕ) (l : Line) → line_of p ≡ Some l → line_text l ≡ p
line_read p l h = ap (joined_by 32) (pieces_read (pieces 32 p) l h) ∙ joined_pieces 32 p
