-- The forms of the lines, piece by piece.
use Rattle.std.proofs.Common.{◌≡◌, ℕ, true, false, List, [], ◌∷◌, drop, ℤ, Some, None, Option, sym, refl, ap, ◌∙◌, arith}
use Rattle.basics.specs.declared.node.NodeNumber.{NodeNumber}
use Rattle.scripts_model.specs.declared.step.Step.{Step}
use Rattle.runtext_model.specs.Accepting.{is_empty}
use Rattle.runtext_model.specs.Lines.{node, guard, script, step, and_then, as_number, unsigned, plain, numbers, node_line, two_lists, guard_line, script_line, step_line, change_line}
use Rattle.runtext_model.specs.Words.{Word, letter, number, slash, word_of}
use Rattle.runtext.specs.Finding.{first_word}
use Rattle.runtext.specs.Listing.{number_in, plain_in, first_number, first_plain, front, behind}
use Rattle.runtext.proofs.Listings.{front_more, front_none}

-- a list whose numbers are followed by nothing is a list of numbers
pub numbers_whole : (ps : List (List ℕ)) → is_empty (behind ps) ≡ true → numbers ps ≡ Some (front ps)
unfolding plain_in
numbers_whole [] t = refl
numbers_whole (p ∷ ps) t = go (plain p) t (numbers_whole ps)
  where
    go : (o : Option ℕ) → is_empty (elim o as (λ _. List (List ℕ)) [ None ↦ p ∷ ps | Some m ↦ behind ps ]) ≡ true
        → (is_empty (behind ps) ≡ true → numbers ps ≡ Some (front ps))
        → and_then o (λ n. and_then (numbers ps) (λ ns. Some (n ∷ ns))) ≡ Some (elim o as (λ _. List ℕ) [ None ↦ [] | Some m ↦ m ∷ front ps ])
    go None t h = cc
    go (Some n) t h = ap (λ o. and_then o (λ ns. Some (n ∷ ns))) (h t)

pub numbers_cut : (ps : List (List ℕ)) → is_empty (behind ps) ≡ false → numbers ps ≡ None
unfolding plain_in
numbers_cut [] t = cc
numbers_cut (p ∷ ps) t = go (plain p) t (numbers_cut ps)
  where
    go : (o : Option ℕ) → is_empty (elim o as (λ _. List (List ℕ)) [ None ↦ p ∷ ps | Some m ↦ behind ps ]) ≡ false
        → (is_empty (behind ps) ≡ false → numbers ps ≡ None)
        → and_then o (λ n. and_then (numbers ps) (λ ns. Some (n ∷ ns))) ≡ None
    go None t h = refl
    go (Some n) t h = ap (λ o. and_then o (λ ns. Some (n ∷ ns))) (h t)

-- a node line
pub node_none : (ps : List (List ℕ)) → first_plain ps ≡ None → node_line ps ≡ None
unfolding plain_in
node_none [] e = refl
node_none (w ∷ []) e = refl
node_none (w ∷ (v ∷ ps)) e =
    ap (λ o. and_then o (λ width. and_then (as_number (word_of v)) (λ value. and_then (numbers ps) (λ parents. Some (node width value parents))))) e

node_second : (w : List ℕ) (ps : List (List ℕ)) (n : ℕ) → plain_in w ≡ Some n → first_number ps ≡ None → node_line (w ∷ ps) ≡ None
unfolding plain_in number_in
node_second w [] n e f = refl
node_second w (v ∷ ps) n e f =
    ap (λ o. and_then o (λ width. and_then (as_number (word_of v)) (λ value. and_then (numbers ps) (λ parents. Some (node width value parents))))) e
    ∙ ap (λ o. and_then o (λ value. and_then (numbers ps) (λ parents. Some (node n value parents)))) f

node_whole : (w v : List ℕ) (ps : List (List ℕ)) (n : ℕ) (z : ℤ) (o : Option (List ℕ)) → plain_in w ≡ Some n → number_in v ≡ Some z → numbers ps ≡ o
    → node_line (w ∷ (v ∷ ps)) ≡ and_then o (λ parents. Some (node n z parents))
unfolding plain_in number_in
node_whole w v ps n z o e f q =
    ap (λ o. and_then o (λ width. and_then (as_number (word_of v)) (λ value. and_then (numbers ps) (λ parents. Some (node width value parents))))) e
    ∙ ap (λ o. and_then o (λ value. and_then (numbers ps) (λ parents. Some (node n value parents)))) f
    ∙ ap (λ o. and_then o (λ parents. Some (node n z parents))) q

-- by what is left after each piece
pub node_valueless : (ps qs : List (List ℕ)) → qs ≡ drop 1 ps → (n : ℕ) → first_plain ps ≡ Some n → first_number qs ≡ None → node_line ps ≡ None
node_valueless [] qs c n e f = refl
node_valueless (w ∷ ps) qs c n e f = node_second w ps n e (ap first_number (sym c) ∙ f)

pub node_is : (ps qs rs : List (List ℕ)) → qs ≡ drop 1 ps → rs ≡ drop 1 qs → (n : ℕ) (z : ℤ) (o : Option (List ℕ)) → first_plain ps ≡ Some n → first_number qs ≡ Some z → numbers rs ≡ o
    → node_line ps ≡ and_then o (λ parents. Some (node n z parents))
node_is ps qs rs c d n z o e f q = go ps e (ap first_number (sym c) ∙ f) (ap numbers (sym (d ∙ ap (drop 1) c)) ∙ q)
  where
    go : (ps : List (List ℕ)) → first_plain ps ≡ Some n → first_number (drop 1 ps) ≡ Some z → numbers (drop 1 (drop 1 ps)) ≡ o → node_line ps ≡ and_then o (λ parents. Some (node n z parents))
    go [] e f q = absurd (cc)
    go (w ∷ []) e f q = absurd (cc)
    go (w ∷ (v ∷ ps)) e f q = node_whole w v ps n z o e f q

-- two lists with a slash between them: what the first piece makes of the rest
abbrev by_word : List (List ℕ) → Option Word → Option (List ℕ × List ℕ)
by_word ps None = None
by_word ps (Some (letter c)) = None
by_word ps (Some (number z)) = and_then (unsigned z) (λ n. and_then (two_lists ps) (λ l. Some ((n ∷ l.0), l.1)))
by_word ps (Some slash) = and_then (numbers ps) (λ b. Some ([], b))

by_first_word : (p : List ℕ) (ps : List (List ℕ)) (o : Option Word) → word_of p ≡ o → two_lists (p ∷ ps) ≡ by_word ps o
by_first_word p ps o e = go (word_of p) refl ∙ ap (by_word ps) e
  where
    go : (w : Option Word) → w ≡ w → elim w as (λ _. Option (List ℕ × List ℕ)) [
      | None ↦ None
      | Some (letter c) ↦ None
      | Some (number z) ↦ and_then (unsigned z) (λ n. and_then (two_lists ps) (λ l. Some ((n ∷ l.0), l.1)))
      | Some slash ↦ and_then (numbers ps) (λ b. Some ([], b))
    ] ≡ by_word ps w
    go None q = refl
    go (Some (letter c)) q = refl
    go (Some (number z)) q = refl
    go (Some slash) q = refl

plain_by_word : (p : List ℕ) (o : Option Word) → word_of p ≡ o → plain_in p ≡ and_then (as_number o) unsigned
unfolding plain_in
plain_by_word p o e = ap (λ w. and_then (as_number w) unsigned) e

module _ (q : List ℕ) (qs : List (List ℕ)) (is : word_of q ≡ Some slash) where
  -- the first list is followed by the slash
  abbrev Two : List (List ℕ) → Type 0
  Two ps = behind ps ≡ q ∷ qs → two_lists ps ≡ and_then (numbers qs) (λ b. Some (front ps, b))

  not_at : (p : List ℕ) (ps : List (List ℕ)) (o : Option Word) → word_of p ≡ o → and_then (as_number o) unsigned ≡ None → (o ≡ Some slash → ⊥) → Two (p ∷ ps)
  not_at p ps o e n f b =
      let (none, all) = front_none (p ∷ ps) (plain_by_word p o e ∙ n) in
      let same : p ≡ q = cc in
      absurd (f (sym e ∙ ap word_of same ∙ is))

  one_more : (p : List ℕ) (ps : List (List ℕ)) (z : ℤ) (u : Option ℕ) → unsigned z ≡ u → word_of p ≡ Some (number z) → Two ps → Two (p ∷ ps)
  one_more p ps z None n e h b = not_at p ps (Some (number z)) e n (λ t. let c : ◌≡◌ {A = ℕ} 0 1 = cc in omega arith) b
  one_more p ps z (Some m) n e h b =
      let (more, on) = front_more p ps m (plain_by_word p (Some (number z)) e ∙ n) in
      by_first_word p ps (Some (number z)) e
      ∙ ap (λ u. and_then u (λ k. and_then (two_lists ps) (λ l. Some ((k ∷ l.0), l.1)))) n
      ∙ ap (λ t. and_then t (λ l. Some ((m ∷ l.0), l.1))) (h (sym on ∙ b))
      ∙ go (numbers qs) ∙ sym (ap (λ a. and_then (numbers qs) (λ b. Some (a, b))) more)
    where
      go : (o : Option (List ℕ)) → and_then {B = List ℕ × List ℕ} (and_then {B = List ℕ × List ℕ} o (λ b. Some (front ps, b))) (λ l. Some ((m ∷ l.0), l.1)) ≡ and_then o (λ b. Some ((m ∷ front ps), b))
      go None = refl
      go (Some b) = refl

  at_slash : (p : List ℕ) (ps : List (List ℕ)) → word_of p ≡ Some slash → Two (p ∷ ps)
  at_slash p ps e b =
      let (none, all) = front_none (p ∷ ps) (plain_by_word p (Some slash) e) in
      let same : ps ≡ qs = cc in
      by_first_word p ps (Some slash) e ∙ ap (λ r. and_then (numbers r) (λ b. Some ([], b))) same ∙ sym (ap (λ a. and_then (numbers qs) (λ b. Some (a, b))) none)

  two_by : (p : List ℕ) (ps : List (List ℕ)) (o : Option Word) → word_of p ≡ o → Two ps → Two (p ∷ ps)
  two_by p ps None e h = not_at p ps None e refl (λ t. let c : ◌≡◌ {A = ℕ} 0 1 = cc in omega arith)
  two_by p ps (Some (letter c)) e h = not_at p ps (Some (letter c)) e refl (λ t. let c : ◌≡◌ {A = ℕ} 0 1 = cc in omega arith)
  two_by p ps (Some (number z)) e h = one_more p ps z (unsigned z) refl e h
  two_by p ps (Some slash) e h = at_slash p ps e

  pub two_lists_are : (ps : List (List ℕ)) → Two ps
  two_lists_are [] = λ b. let c : ◌≡◌ {A = ℕ} 0 1 = cc in absurd (omega arith)
  two_lists_are (p ∷ ps) = two_by p ps (word_of p) refl (two_lists_are ps)

-- no slash behind the first list
abbrev Slashless : List (List ℕ) → Type 0
Slashless ps = (first_word (behind ps) ≡ Some slash → ⊥) → two_lists ps ≡ None

slashless_by : (p : List ℕ) (ps : List (List ℕ)) (o : Option Word) → word_of p ≡ o → Slashless ps → Slashless (p ∷ ps)
slashless_by p ps None e h f = by_first_word p ps None e
slashless_by p ps (Some (letter c)) e h f = by_first_word p ps (Some (letter c)) e
slashless_by p ps (Some (number z)) e h f = by_first_word p ps (Some (number z)) e ∙ go (unsigned z) refl
  where
    go : (u : Option ℕ) → unsigned z ≡ u → and_then {B = List ℕ × List ℕ} u (λ k. and_then (two_lists ps) (λ l. Some ((k ∷ l.0), l.1))) ≡ None
    go None n = refl
    go (Some m) n =
        let (more, on) = front_more p ps m (plain_by_word p (Some (number z)) e ∙ n) in
        ap (λ t. and_then {B = List ℕ × List ℕ} t (λ l. Some ((m ∷ l.0), l.1))) (h (λ t. f (ap first_word on ∙ t)))
slashless_by p ps (Some slash) e h f =
    let (none, all) = front_none (p ∷ ps) (plain_by_word p (Some slash) e) in
    absurd (f (ap first_word all ∙ e))

pub two_lists_none : (ps : List (List ℕ)) → Slashless ps
two_lists_none [] = λ f. refl
two_lists_none (p ∷ ps) = slashless_by p ps (word_of p) refl (two_lists_none ps)

pub guard_is : (ps qs : List (List ℕ)) → qs ≡ drop 1 ps → (n : ℕ) (o : Option (List ℕ × List ℕ)) → first_plain ps ≡ Some n → two_lists qs ≡ o → guard_line ps ≡ and_then o (λ l. Some (guard n l.0 l.1))
unfolding plain_in
guard_is [] qs c n o e q = absurd (cc)
guard_is (p ∷ ps) qs c n o e q =
    ap (λ u. and_then u (λ m. and_then (two_lists ps) (λ l. Some (guard m l.0 l.1)))) e ∙ ap (λ t. and_then t (λ l. Some (guard n l.0 l.1))) (ap two_lists (sym c) ∙ q)

pub guard_none : (ps : List (List ℕ)) → first_plain ps ≡ None → guard_line ps ≡ None
unfolding plain_in
guard_none [] e = refl
guard_none (n ∷ ps) e = ap (λ o. and_then o (λ m. and_then (two_lists ps) (λ l. Some (guard m l.0 l.1)))) e

-- a node, and nothing else
pub step_none : (f : NodeNumber → Step) (ps : List (List ℕ)) → first_plain ps ≡ None → step_line f ps ≡ None
unfolding plain_in
step_none f [] e = refl
step_none f (n ∷ []) e = ap (λ o. and_then o (λ m. Some (step (f (record { 0 = m }))))) e
step_none f (n ∷ (p ∷ ps)) e = refl

step_more : (f : NodeNumber → Step) (p : List ℕ) (ps : List (List ℕ)) → is_empty ps ≡ false → step_line f (p ∷ ps) ≡ None
step_more f p [] t = cc
step_more f p (q ∷ ps) t = refl

step_whole : (f : NodeNumber → Step) (p : List ℕ) (ps : List (List ℕ)) (n : ℕ) → is_empty ps ≡ true → plain_in p ≡ Some n → step_line f (p ∷ ps) ≡ Some (step (f (record { 0 = n })))
unfolding plain_in
step_whole f p [] n t e = ap (λ o. and_then o (λ m. Some (step (f (record { 0 = m }))))) e
step_whole f p (q ∷ ps) n t e = cc

pub step_long : (f : NodeNumber → Step) (ps qs : List (List ℕ)) → qs ≡ drop 1 ps → is_empty qs ≡ false → step_line f ps ≡ None
step_long f [] qs c t = refl
step_long f (p ∷ ps) qs c t = step_more f p ps (ap is_empty (sym c) ∙ t)

pub step_is : (f : NodeNumber → Step) (ps qs : List (List ℕ)) → qs ≡ drop 1 ps → (n : ℕ) → is_empty qs ≡ true → first_plain ps ≡ Some n → step_line f ps ≡ Some (step (f (record { 0 = n })))
step_is f [] qs c n t e = absurd (cc)
step_is f (p ∷ ps) qs c n t e = step_whole f p ps n (ap is_empty (sym c) ∙ t) e

-- a node and a number, and nothing else
pub change_none : (f : NodeNumber → ℤ → Step) (ps : List (List ℕ)) → first_plain ps ≡ None → change_line f ps ≡ None
unfolding plain_in
change_none f [] e = refl
change_none f (n ∷ []) e = refl
change_none f (n ∷ (v ∷ [])) e = ap (λ o. and_then o (λ m. and_then (as_number (word_of v)) (λ z. Some (step (f (record { 0 = m }) z))))) e
change_none f (n ∷ (v ∷ (p ∷ ps))) e = refl

change_second : (f : NodeNumber → ℤ → Step) (p : List ℕ) (ps : List (List ℕ)) (n : ℕ) → plain_in p ≡ Some n → first_number ps ≡ None → change_line f (p ∷ ps) ≡ None
unfolding plain_in number_in
change_second f p [] n e q = refl
change_second f p (v ∷ []) n e q =
    ap (λ o. and_then o (λ m. and_then (as_number (word_of v)) (λ z. Some (step (f (record { 0 = m }) z))))) e
    ∙ ap (λ o. and_then o (λ z. Some (step (f (record { 0 = n }) z)))) q
change_second f p (v ∷ (x ∷ ps)) n e q = refl

change_more : (f : NodeNumber → ℤ → Step) (p v : List ℕ) (ps : List (List ℕ)) → is_empty ps ≡ false → change_line f (p ∷ (v ∷ ps)) ≡ None
change_more f p v [] t = cc
change_more f p v (q ∷ ps) t = refl

change_whole : (f : NodeNumber → ℤ → Step) (p v : List ℕ) (ps : List (List ℕ)) (n : ℕ) (z : ℤ) → is_empty ps ≡ true → plain_in p ≡ Some n → number_in v ≡ Some z
    → change_line f (p ∷ (v ∷ ps)) ≡ Some (step (f (record { 0 = n }) z))
unfolding plain_in number_in
change_whole f p v [] n z t e q =
    ap (λ o. and_then o (λ m. and_then (as_number (word_of v)) (λ z. Some (step (f (record { 0 = m }) z))))) e
    ∙ ap (λ o. and_then o (λ z. Some (step (f (record { 0 = n }) z)))) q
change_whole f p v (x ∷ ps) n z t e q = cc

pub change_valueless : (f : NodeNumber → ℤ → Step) (ps qs : List (List ℕ)) → qs ≡ drop 1 ps → (n : ℕ) → first_plain ps ≡ Some n → first_number qs ≡ None → change_line f ps ≡ None
change_valueless f [] qs c n e q = refl
change_valueless f (p ∷ ps) qs c n e q = change_second f p ps n e (ap first_number (sym c) ∙ q)

pub change_long : (f : NodeNumber → ℤ → Step) (ps qs rs : List (List ℕ)) → qs ≡ drop 1 ps → rs ≡ drop 1 qs → is_empty rs ≡ false → change_line f ps ≡ None
change_long f ps qs rs c d t = go ps (ap is_empty (sym (d ∙ ap (drop 1) c)) ∙ t)
  where
    go : (ps : List (List ℕ)) → is_empty (drop 1 (drop 1 ps)) ≡ false → change_line f ps ≡ None
    go [] t = refl
    go (p ∷ []) t = refl
    go (p ∷ (v ∷ ps)) t = change_more f p v ps t

pub change_is : (f : NodeNumber → ℤ → Step) (ps qs rs : List (List ℕ)) → qs ≡ drop 1 ps → rs ≡ drop 1 qs → (n : ℕ) (z : ℤ) → is_empty rs ≡ true → first_plain ps ≡ Some n → first_number qs ≡ Some z
    → change_line f ps ≡ Some (step (f (record { 0 = n }) z))
change_is f ps qs rs c d n z t e q = go ps (ap is_empty (sym (d ∙ ap (drop 1) c)) ∙ t) e (ap first_number (sym c) ∙ q)
  where
    go : (ps : List (List ℕ)) → is_empty (drop 1 (drop 1 ps)) ≡ true → first_plain ps ≡ Some n → first_number (drop 1 ps) ≡ Some z → change_line f ps ≡ Some (step (f (record { 0 = n }) z))
    go [] t e q = absurd (cc)
    go (p ∷ []) t e q = absurd (cc)
    go (p ∷ (v ∷ ps)) t e q = change_whole f p v ps n z t e q

-- S stands alone
pub script_is : (ps : List (List ℕ)) → is_empty ps ≡ true → script_line ps ≡ Some script
script_is [] t = refl
script_is (p ∷ ps) t = cc

pub script_long : (ps : List (List ℕ)) → is_empty ps ≡ false → script_line ps ≡ None
script_long [] t = cc
script_long (p ∷ ps) t = refl
