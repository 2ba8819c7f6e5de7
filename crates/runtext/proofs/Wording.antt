-- Which word some bytes are.
use Rattle.std.proofs.Common.{◌≡◌, ℕ, ◌<◌, ◌≤◌, Bool, true, false, cond, eqb, leb, List, length, get_or, ℤ, Some, None, Option, sym, refl, ap, ◌∙◌, inl, inr}
use Rattle.std.proofs.lemmas.Bool.{cases_lt, lt-leb, and_left, and_right, ne_eqb}
use Rattle.std.specs.Option.{is_some}
use Rattle.runtext_model.specs.Words.{Word, letter, number, slash, is_capital, is_number, number_value, is_single, word_of}
use Rattle.runtext_model.specs.Lines.{as_number}
use Rattle.runtext.specs.Listing.{number_in}
use Rattle.runtext.specs.Numerals.{number_read}

-- whether some number was read
pub is_one : (bs : List ℕ) (o : Option ℤ) (t : Bool) → o ≡ number_read bs → is_some o ≡ t → is_number bs ≡ t
unfolding number_read
is_one bs o t e i = go (is_number bs) ∙ sym (ap is_some e) ∙ i
  where
    go : (b : Bool) → b ≡ is_some (cond b (Some (number_value bs)) None)
    go true = refl
    go false = refl

pub not_capital : (b : ℕ) → (65 ≤ b → 90 < b) → is_capital b ≡ false
not_capital b h = elim (cases_lt b 65) [
  | inl l ↦ and_left (leb 65 b) _ (lt-leb 65 b l)
  | inr l ↦ and_right (leb 65 b) _ (lt-leb b 90 (h l))
]

-- by its tests
abbrev chosen : List ℕ → Bool → Bool → Bool → Option Word
chosen bs n l s = cond n (Some (number (number_value bs))) (cond l (Some (letter (get_or bs 0 0))) (cond s (Some slash) None))

-- the number that a piece is, as a word, is the number that its bytes write
pub number_reads : (bs : List ℕ) → number_in bs ≡ number_read bs
unfolding number_in number_read
number_reads bs = go (is_number bs) (is_single is_capital bs) (is_single (λ b. eqb b 47) bs)
  where
    go : (n l s : Bool) → as_number (chosen bs n l s) ≡ cond n (Some (number_value bs)) None
    go true l s = refl
    go false true s = refl
    go false false true = refl
    go false false false = refl

pub word_number : (bs : List ℕ) → is_number bs ≡ true → word_of bs ≡ Some (number (number_value bs))
word_number bs t = ap (λ n. chosen bs n (is_single is_capital bs) (is_single (λ b. eqb b 47) bs)) t

module _ (bs : List ℕ) (t : is_number bs ≡ false) where
  abbrev is_slash : Bool
  is_slash = is_single (λ b. eqb b 47) bs

  other : word_of bs ≡ chosen bs false (is_single is_capital bs) is_slash
  other = ap (λ n. chosen bs n (is_single is_capital bs) is_slash) t

  pub word_long : (length bs ≡ 1 → ⊥) → word_of bs ≡ None
  word_long h =
      let long = ne_eqb (length bs) 1 h in
      other ∙ ap (λ l. chosen bs false l is_slash) (and_left (eqb (length bs) 1) _ long) ∙ ap (λ s. chosen bs false false s) (and_left (eqb (length bs) 1) _ long)

  module _ (one : length bs ≡ 1) where
    no_letter : is_capital (get_or bs 0 0) ≡ false → word_of bs ≡ chosen bs false false is_slash
    no_letter c = other ∙ ap (λ l. chosen bs false l is_slash) (and_right (eqb (length bs) 1) _ c)

    pub word_none : is_capital (get_or bs 0 0) ≡ false → (get_or bs 0 0 ≡ 47 → ⊥) → word_of bs ≡ None
    word_none c e = no_letter c ∙ ap (λ s. chosen bs false false s) (and_right (eqb (length bs) 1) _ (ne_eqb (get_or bs 0 0) 47 e))
