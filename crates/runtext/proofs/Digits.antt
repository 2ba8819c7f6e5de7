-- Numbers read digit by digit.
use Rattle.std.proofs.Common.{◌≡◌, ℕ, ◌+◌, ◌-◌, ◌*◌, ◌<◌, ◌≤◌, Bool, true, false, cond, not, ◌&&◌, eqb, List, [], ◌∷◌, length, get_or, take, drop, ℤ, pos, negsuc, Some, None, Option, sym, refl, ap, ◌∙◌, arith}
use Rattle.std.specs.Cmp.Lexicographic.{pointwise}
use Rattle.std.proofs.lemmas.List.{at_drop_more, at_drop_all}
use Rattle.std.proofs.lemmas.Bool.{and_right, ne_eqb}
use Rattle.runtext_model.specs.Words.{is_digit, all_digits, read_on, value, is_numeral, has_minus}
use Rattle.runtext.specs.Numerals.{sized, digits_read, numeral_read, negative_read, number_read}

digit_then : (n b : ℕ) (bs : List ℕ) → is_digit b ≡ true → digits_read n (b ∷ bs) ≡ digits_read (10 * n + (b - 48)) bs
unfolding digits_read
digit_then n b bs d = ap (λ t. cond (t && all_digits bs) (Some (read_on (10 * n + (b - 48)) bs)) None) d

no_digit : (n b : ℕ) (bs : List ℕ) → is_digit b ≡ false → digits_read n (b ∷ bs) ≡ None
unfolding digits_read
no_digit n b bs d = ap (λ t. cond (t && all_digits bs) (Some (read_on (10 * n + (b - 48)) bs)) None) d

-- one more digit, no digit, and the end, at the place i
module _ (n : ℕ) (ds : List ℕ) (i : ℕ) where
  pub digits_more : i < length ds → is_digit (get_or ds i 0) ≡ true → digits_read n (drop i ds) ≡ digits_read (10 * n + (get_or ds i 0 - 48)) (drop (i + 1) ds)
  digits_more l d = at_drop_more (digits_read n) ds i 0 l ∙ digit_then n (get_or ds i 0) (drop (i + 1) ds) d

  pub digits_bad : i < length ds → is_digit (get_or ds i 0) ≡ false → digits_read n (drop i ds) ≡ None
  digits_bad l d = at_drop_more (digits_read n) ds i 0 l ∙ no_digit n (get_or ds i 0) (drop (i + 1) ds) d

  pub digits_done : length ds ≤ i → digits_read n (drop i ds) ≡ Some n
  unfolding digits_read
  digits_done l = at_drop_all (digits_read n) ds i l

pub numeral_sized : (ds : List ℕ) → sized ds ≡ true → numeral_read ds ≡ digits_read 0 ds
unfolding numeral_read digits_read
numeral_sized ds t = go (all_digits ds)
  where
    go : (a : Bool) → cond (a && sized ds) (Some (value ds)) None ≡ cond a (Some (value ds)) None
    go true = ap (λ t. cond t (Some (value ds)) None) t
    go false = refl

pub numeral_unsized : (ds : List ℕ) → sized ds ≡ false → numeral_read ds ≡ None
unfolding numeral_read
numeral_unsized ds t = ap (λ b. cond b (Some (value ds)) None) (and_right (all_digits ds) (sized ds) t)

-- what a numeral says of the number before which a minus stands
pub negated : (ds : List ℕ) (n : ℕ) → numeral_read ds ≡ Some n → 0 < n → negative_read ds ≡ Some (negsuc (n - 1))
unfolding numeral_read negative_read
negated ds n e l = go (is_numeral ds) e
  where
    go : (b : Bool) → cond b (Some (value ds)) None ≡ Some n → cond (b && not (eqb (value ds) 0)) (Some (negsuc (value ds - 1))) None ≡ Some (negsuc (n - 1))
    go true e =
        let q : value ds ≡ n = cc in
        let some : eqb (value ds) 0 ≡ false = ne_eqb (value ds) 0 (λ z. omega arith) in
        ap (λ t. cond (not t) (Some (negsuc (value ds - 1))) None) some ∙ ap (λ m. Some (negsuc (m - 1))) q
    go false e = cc

pub no_minus_zero : (ds : List ℕ) → numeral_read ds ≡ Some 0 → negative_read ds ≡ None
unfolding numeral_read negative_read
no_minus_zero ds e = go (is_numeral ds) e
  where
    go : (b : Bool) → cond b (Some (value ds)) None ≡ Some 0 → cond (b && not (eqb (value ds) 0)) (Some (negsuc (value ds - 1))) None ≡ None
    go true e = let q : value ds ≡ 0 = cc in ap (λ m. cond (not (eqb m 0)) (Some (negsuc (value ds - 1))) None) q
    go false e = refl

pub not_negated : (ds : List ℕ) → numeral_read ds ≡ None → negative_read ds ≡ None
unfolding numeral_read negative_read
not_negated ds e = go (is_numeral ds) e
  where
    go : (b : Bool) → cond b (Some (value ds)) None ≡ None → cond (b && not (eqb (value ds) 0)) (Some (negsuc (value ds - 1))) None ≡ None
    go true e = cc
    go false e = refl

-- whether a minus is the first byte
pub minus_first : (bs : List ℕ) (b : Bool) → pointwise (λ x y. eqb x y) (take 1 bs) (45 ∷ []) ≡ b → has_minus bs ≡ b
minus_first [] b e = e
minus_first (x ∷ xs) b e = sym (and_true (eqb x 45)) ∙ e
  where
    and_true : (a : Bool) → (a && true) ≡ a
    and_true true = refl
    and_true false = refl

-- a number is read by its sign
pub with_minus : (bs : List ℕ) → has_minus bs ≡ true → number_read bs ≡ negative_read (drop 1 bs)
unfolding number_read negative_read
with_minus bs t =
    ap (λ b. cond (cond b (is_numeral (drop 1 bs) && not (eqb (value (drop 1 bs)) 0)) (is_numeral bs)) (Some (cond b (negsuc (value (drop 1 bs) - 1)) (pos (value bs)))) None) t

pub without_minus : (bs : List ℕ) → has_minus bs ≡ false → (n : Option ℕ) → numeral_read bs ≡ n → number_read bs ≡ elim n [ None ↦ None | Some m ↦ Some (pos m) ]
unfolding number_read numeral_read
without_minus bs t n e =
    ap (λ b. cond (cond b (is_numeral (drop 1 bs) && not (eqb (value (drop 1 bs)) 0)) (is_numeral bs)) (Some (cond b (negsuc (value (drop 1 bs) - 1)) (pos (value bs)))) None) t
    ∙ go (is_numeral bs) ∙ ap (λ (m : Option ℕ). elim m as (λ _. Option ℤ) [ None ↦ None | Some k ↦ Some (pos k) ]) e
  where
    go : (b : Bool) → cond b (Some (pos (value bs))) None ≡ elim (cond b (Some (value bs)) None) as (λ _. Option ℤ) [ None ↦ None | Some m ↦ Some (pos m) ]
    go true = refl
    go false = refl
