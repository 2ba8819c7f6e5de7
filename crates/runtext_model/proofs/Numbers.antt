-- The words of a line as text, and back.
use Rattle.std.proofs.Common.{◌≡◌, ℕ, suc, ◌-◌, ◌^◌, ◌<◌, Bool, true, false, eqb, leb, List, [], ◌∷◌, length, get_or, ℤ, pos, negsuc, Some, None, decimal, Option, sym, refl, ap, ◌∙◌, inl, inr, arith, rules}
use Rattle.std.specs.Fmt.{signed_decimal}
use Rattle.std.proofs.lemmas.Fmt.{decimal-digits_value, digits_decimal, digits_value-decimal, first_decimal, length-decimal-le, decimal_nonempty, decimal_digit}
use Rattle.std.proofs.lemmas.Str.Parse.{IsNumeralModel, numerals_by_fold, digits_value_short}
use Rattle.std.proofs.lemmas.Bool.{cases_Bool, cases_eq, cond-true, cond-false, and_parts, and_from, or_cases, eqb-true, eqb-false, ne_eqb, leb-true, le-leb, not-true, not_from_false, or_right, both_ways, and_left, and_right, lt-leb}
use Rattle.runtext_model.specs.Words.{Word, letter, number, slash, is_digit, is_capital, all_digits, read_on, value, is_numeral, is_number, number_value, is_single, word_of}
use Rattle.runtext_model.specs.Writing.{word_text}
use Rattle.runtext_model.proofs.Cutting.{Free}

-- two answers that say something and are equal say the same
pub some_same : {A : Type 0} {x y : A} → Some x ≡ Some y → x ≡ y
some_same e = cc

-- saying nothing is not saying something
pub none_some : {A : Type 0} {x : A} → ◌≡◌ {A = Option A} None (Some x) → ⊥
none_some e = let z : ◌≡◌ {A = ℕ} 0 1 = cc in omega arith

-- digits and their value, as the library knows them
own : IsNumeralModel (λ ds. all_digits ds ≡ true) (read_on 0)
own = numerals_by_fold _ (search rules) read_on (search rules)

-- a numeral is what is written of its value
numeral_text : (ds : List ℕ) → is_numeral ds ≡ true → decimal (value ds) ≡ ds
numeral_text ds h =
    let (digits, sizes) = and_parts (all_digits ds) _ h in
    let (some, more) = and_parts (leb 1 (length ds)) _ sizes in
    let (few, lead) = and_parts (leb (length ds) 5) _ more in
    let short = leb-true (length ds) 5 few in
    let low : value ds < 10 ^ 5 = digits_value_short own ds 5 digits short in
    decimal-digits_value own ds digits (omega (arith, leb-true 1 (length ds) some))
    (λ z. elim (or_cases (eqb (length ds) 1) _ lead) [
      | inl one ↦ eqb-true (length ds) 1 one
      | inr other ↦ let led = eqb-false (get_or ds 0 0) _ (not-true _ other) in absurd (omega (arith, led))
    ])
    (omega arith)

-- a number of at most five digits
abbrev pub Small : ℤ → Type 0
Small (pos n) = n < 100000
Small (negsuc n) = suc n < 100000

-- what is written of a small number is a numeral
text_numeral : (n : ℕ) → n < 100000 → is_numeral (decimal n) ≡ true
text_numeral n h =
    let digits : all_digits (decimal n) ≡ true = digits_decimal own n (omega arith) in
    let some = decimal_nonempty n (omega arith) in
    let few = length-decimal-le 5 n (omega arith) (omega arith) (omega arith) in
    and_from _ _ digits (and_from _ _ (le-leb 1 (length (decimal n)) (omega arith)) (and_from _ _ (le-leb (length (decimal n)) 5 few) (elim (cases_eq n 0) [
      | inl z ↦ rw (z, decimal_digit 0 (omega arith)) refl
      | inr nz ↦
          let high = first_decimal n (omega arith) (omega arith) in
          or_right (eqb (length (decimal n)) 1) _ (not_from_false _ (ne_eqb (get_or (decimal n) 0 0) _ (λ e. omega arith)))
    ])))

-- the value of what is written of a number is the number
value_text : (n : ℕ) → n < 100000 → value (decimal n) ≡ n
value_text n h = digits_value-decimal own n (omega arith)

-- a numeral begins with no minus
no_minus : (n : ℕ) → n < 100000 → eqb (get_or (decimal n) 0 0) 45 ≡ false
no_minus n h = elim (cases_eq n 0) [
  | inl z ↦ rw (z, decimal_digit 0 (omega arith)) refl
  | inr nz ↦ let high = first_decimal n (omega arith) (omega arith) in ne_eqb (get_or (decimal n) 0 0) 45 (λ e. omega arith)
]

-- what is written of a small number is read as that number
number_word : (z : ℤ) → Small z → (is_number (signed_decimal z) ≡ true) × (number_value (signed_decimal z) ≡ z)
number_word (pos n) h =
    let low : eqb (get_or (decimal n) 0 0) 45 ≡ false = no_minus n h in
    (cond-false _ _ _ low ∙ text_numeral n h, cond-false _ _ _ low ∙ ap pos (value_text n h))
number_word (negsuc n) h =
    let v = value_text (suc n) h in
    let same : value (decimal (suc n)) - 1 ≡ n = omega arith in
    (and_from _ _ (text_numeral (suc n) h) (not_from_false _ (ne_eqb (value (decimal (suc n))) _ (λ z. omega arith))), ap negsuc same)

-- a word that a line can hold
abbrev pub Plain : Word → Type 0
Plain (letter c) = is_capital c ≡ true
Plain (number z) = Small z
Plain slash = Unit {0}

-- a capital is no number
capital : (c : ℕ) → is_capital c ≡ true → is_number (c ∷ []) ≡ false
capital c h =
    let low = leb-true 65 c (and_parts (leb 65 c) (leb c 90) h).0 in
    cond-false _ _ _ (ne_eqb c 45 (λ e. omega arith))
    ∙ and_left _ _ (and_left (is_digit c) _ (and_right (leb 48 c) (leb c 57) (lt-leb c 57 (omega arith))))

-- a word, written out, is read as the word
pub reads_word : (w : Word) → Plain w → word_of (word_text w) ≡ Some w
reads_word (letter c) h = cond-false _ _ _ (capital c h) ∙ cond-true _ _ _ h
reads_word (number z) h = let (is, same) = number_word z h in cond-true _ _ _ is ∙ ap (λ x. Some (number x)) same
reads_word slash h = refl

-- a number that was read is written as it stood
number_text : (p : List ℕ) → is_number p ≡ true → signed_decimal (number_value p) ≡ p
number_text [] h = absurd (both_ways _ refl h)
number_text (b ∷ ds) h = elim (cases_Bool (eqb b 45)) [
  | inl t ↦
      let (numeral, some) = and_parts (is_numeral ds) _ (sym (cond-true (eqb b 45) _ _ t) ∙ h) in
      let nz = eqb-false (value ds) _ (not-true _ some) in
      let up : suc (value ds - 1) ≡ value ds = omega (arith, nz) in
      let q = eqb-true b 45 t in
      ap signed_decimal (cond-true (eqb b 45) _ _ t) ∙ ap (λ n. 45 ∷ decimal n) up ∙ ap (λ xs. 45 ∷ xs) (numeral_text ds numeral) ∙ ap (λ x. x ∷ ds) (sym q)
  | inr f ↦ ap signed_decimal (cond-false (eqb b 45) _ _ f) ∙ numeral_text (b ∷ ds) (sym (cond-false (eqb b 45) _ _ f) ∙ h)
]

-- one byte
single : (q : ℕ → Bool) (p : List ℕ) → is_single q p ≡ true → get_or p 0 0 ∷ [] ≡ p
single q [] h = absurd (both_ways _ refl h)
single q (b ∷ []) h = refl
single q (b ∷ (c ∷ ds)) h =
    absurd (omega (arith, eqb-true (length (b ∷ (c ∷ ds))) 1 (and_parts (eqb (length (b ∷ (c ∷ ds))) 1) _ h).0))

-- the text of a word that was read is what was read
pub word_read : (p : List ℕ) (w : Word) → word_of p ≡ Some w → word_text w ≡ p
word_read p w h = elim (cases_Bool (is_number p)) [
  | inl t ↦
      let e : number (number_value p) ≡ w = some_same (sym (cond-true (is_number p) _ _ t) ∙ h) in
      ap word_text (sym e) ∙ number_text p t
  | inr f ↦
      let k = sym (cond-false (is_number p) _ _ f) ∙ h in
      elim (cases_Bool (is_single is_capital p)) [
        | inl t ↦
            let e : letter (get_or p 0 0) ≡ w = some_same (sym (cond-true (is_single is_capital p) _ _ t) ∙ k) in
            ap word_text (sym e) ∙ single is_capital p t
        | inr g ↦
            let l = sym (cond-false (is_single is_capital p) _ _ g) ∙ k in
            elim (cases_Bool (is_single (λ b. eqb b 47) p)) [
              | inl t ↦
                  let e : slash ≡ w = some_same (sym (cond-true (is_single (λ b. eqb b 47) p) _ _ t) ∙ l) in
                  let at : get_or p 0 0 ≡ 47 = eqb-true (get_or p 0 0) 47 (and_parts (eqb (length p) 1) (eqb (get_or p 0 0) 47) t).1 in
                  ap word_text (sym e) ∙ ap (λ x. x ∷ []) (sym at) ∙ single (λ b. eqb b 47) p t
              | inr no_slash ↦ absurd (none_some (sym (cond-false (is_single (λ b. eqb b 47) p) _ _ no_slash) ∙ l))
            ]
      ]
]

-- digits hold no byte below the digits
digits_free : (c : ℕ) (ds : List ℕ) → c < 48 → all_digits ds ≡ true → Free c ds
digits_free c [] low h = tt
digits_free c (d ∷ ds) low h =
    let (here, rest) = and_parts (is_digit d) (all_digits ds) h in
    let high = leb-true 48 d (and_parts (leb 48 d) (leb d 57) here).0 in
    (ne_eqb d c (λ e. omega arith), digits_free c ds low rest)

-- a word holds no byte below 45: no space and no line feed
pub word_free : (c : ℕ) (w : Word) → c < 45 → Plain w → Free c (word_text w)
word_free c (letter b) low h =
    let high = leb-true 65 b (and_parts (leb 65 b) (leb b 90) h).0 in
    (ne_eqb b c (λ e. omega arith), tt)
word_free c (number (pos n)) low h = digits_free c (decimal n) (omega arith) (digits_decimal own n (omega arith))
word_free c (number (negsuc n)) low h =
    (ne_eqb 45 c (λ e. omega arith), digits_free c (decimal (suc n)) (omega arith) (digits_decimal own (suc n) (omega arith)))
word_free c slash low h = (ne_eqb 47 c (λ e. omega arith), tt)
