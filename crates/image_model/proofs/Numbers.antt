-- Numbers in rows of bits.
use Rattle.std.proofs.Common.{◌≡◌, ℕ, zero, suc, ◌+◌, ◌-◌, ◌*◌, ◌/◌, ◌%◌, ◌^◌, ◌<◌, ◌≤◌, Bool, true, false, cond, ◌&&◌, List, get_or, sym, refl, ap, ◌∙◌, inl, inr, mul_assoc, pow-suc, div-one, arith, pow_pos}
use Rattle.std.proofs.lemmas.Nat.{mod_below}
use Rattle.std.proofs.lemmas.Bool.{cases_lt, cases_eq, lt-ltb}
use Rattle.std.proofs.lemmas.Bool.Decides.{nat_tests}
use Rattle.basics.specs.Sets.{has}
use Rattle.basics.proofs.Masks.{has_past, has_ext, has_suc, has_shr, has_mod}
use Rattle.image_model.specs.Image.{image_bit, number}
use Rattle.image_model.specs.ImageLaws.{digit_small, number_lt}

abbrev digit : Bool → ℕ
digit b = cond b 1 0

-- a number of two parts
pub number_split : (row : ℕ → Bool) (at v w : ℕ) → number row at (v + w) ≡ number row at v * 2 ^ w + number row (at + v) w
number_split row at v zero = let e : v + 0 ≡ v = omega arith in ap (number row at) e ∙ omega arith
number_split row at v (suc w) =
    let e : v + suc w ≡ suc (v + w) = omega arith in
    let p : at + (v + w) ≡ at + v + w = omega arith in
    let q : number row at v * 2 ^ suc w ≡ number row at v * 2 ^ w * 2 = ap (λ x. number row at v * x) (pow-suc 2 w) ∙ sym (mul_assoc (number row at v) (2 ^ w) 2) in
    ap (number row at) e ∙ omega (arith, number_split row at v w, q, ap (λ i. digit (row i)) p)

-- a number depends on its own bits alone
pub number_same : (row other : ℕ → Bool) (at w : ℕ) → ((j : ℕ) → j < w → row (at + j) ≡ other (at + j)) → number row at w ≡ number other at w
number_same row other at zero h = refl
number_same row other at (suc w) h =
    omega (arith, number_same row other at w (λ j l. h j (omega arith)), ap digit (h w (omega arith)))

-- bit j of the number, from the top
pub number_has : (row : ℕ → Bool) (at w j : ℕ) → j < w → has (number row at w) (w - 1 - j) ≡ row (at + j)
number_has row at zero j h = absurd (omega arith)
number_has row at (suc w) j h = elim (cases_eq j w) [
  | inl q ↦
      let z : suc w - 1 - j ≡ 0 = omega arith in
      let d = digit_small (row (at + w)) in
      let e : has (number row at (suc w)) 0 ≡ row (at + w) = last (number row at w) (row (at + w)) in
      rw (z, q) e
  | inr ne ↦
      let z : suc w - 1 - j ≡ suc (w - 1 - j) = omega arith in
      let half : number row at (suc w) / 2 ≡ number row at w = omega (arith, digit_small (row (at + w))) in
      rw z (has_suc (number row at (suc w)) (w - 1 - j) ∙ ap (λ m. has m (w - 1 - j)) half ∙ number_has row at w j (omega arith))
]
  where
    last : (n : ℕ) (b : Bool) → has (2 * n + digit b) 0 ≡ b
    last n true = let e = div-one (2 * n + 1) in let z : (2 * n + 1) / 2 ^ 0 % 2 ≡ 1 = omega arith in grind (arith, nat_tests)
    last n false = let e = div-one (2 * n + 0) in let z : (2 * n + 0) / 2 ^ 0 % 2 ≡ 0 = omega arith in grind (arith, nat_tests)

-- the number whose bits are those of u is u
pub number_is : (row : ℕ → Bool) (at w u : ℕ) → u < 2 ^ w → ((j : ℕ) → j < w → row (at + j) ≡ has u (w - 1 - j)) → number row at w ≡ u
number_is row at w u h bits = has_ext (number row at w) u (λ p. elim (cases_lt p w) [
  | inl l ↦
      let back : w - 1 - (w - 1 - p) ≡ p = omega arith in
      rw back at (number_has row at w (w - 1 - p) (omega arith) ∙ bits (w - 1 - p) (omega arith))
  | inr past ↦ has_past w (number row at w) p (number_lt row at w) past ∙ sym (has_past w u p h past)
])

-- some bits of one byte
pub number_byte : (image : List ℕ) (k o w : ℕ) → o + w ≤ 8 → number (image_bit image) (8 * k + o) w ≡ get_or image k 0 / 2 ^ (8 - o - w) % 2 ^ w
number_byte image k o w h =
    number_is (image_bit image) (8 * k + o) w (byte / 2 ^ s % 2 ^ w) (mod_below (byte / 2 ^ s) (2 ^ w) (pow_pos w)) same
  where
    byte : ℕ
    byte = get_or image k 0

    s : ℕ
    s = 8 - o - w

    same : (j : ℕ) → j < w → image_bit image (8 * k + o + j) ≡ has (byte / 2 ^ s % 2 ^ w) (w - 1 - j)
    same j l =
        let at : (8 * k + o + j) / 8 ≡ k = omega arith in
        let left : 7 - (8 * k + o + j) % 8 ≡ s + (w - 1 - j) = omega arith in
        let cut : has (byte / 2 ^ s % 2 ^ w) (w - 1 - j) ≡ has byte (s + (w - 1 - j)) = has_mod (byte / 2 ^ s) w (w - 1 - j) ∙ ap (λ b. b && has (byte / 2 ^ s) (w - 1 - j)) (lt-ltb (w - 1 - j) w (omega arith)) ∙ has_shr byte s (w - 1 - j) in
        ap (λ b. has (get_or image b 0) (7 - (8 * k + o + j) % 8)) at ∙ ap (has byte) left ∙ sym cut

-- a byte is the number of its bits
pub byte_is : (image : List ℕ) (k : ℕ) → get_or image k 0 < 256 → number (image_bit image) (8 * k) 8 ≡ get_or image k 0
byte_is image k h =
    let z : 8 * k + 0 ≡ 8 * k = omega arith in
    rw z at (number_byte image k 0 8 (omega arith)) ∙ omega (arith, div-one (get_or image k 0))

-- one byte more is read
pub number_more : (image : List ℕ) (from i : ℕ) → get_or image (from + i) 0 < 256 → number (image_bit image) (8 * from) (8 * (i + 1)) ≡ number (image_bit image) (8 * from) (8 * i) * 256 + get_or image (from + i) 0
number_more image from i h =
    let e : 8 * (i + 1) ≡ 8 * i + 8 = omega arith in
    let p : 8 * from + 8 * i ≡ 8 * (from + i) = omega arith in
    ap (number row (8 * from)) e ∙ number_split row (8 * from) (8 * i) 8
    ∙ ap (λ b. number row (8 * from) (8 * i) * 256 + b) (ap (λ a. number row a 8) p ∙ byte_is image (from + i) h)
  where
    row : ℕ → Bool
    row = image_bit image

-- the number in the middle of a longer one, with o bits before it and s bits after it
pub number_middle : (row : ℕ → Bool) (from o w s : ℕ) → number row from (o + w + s) / 2 ^ s % 2 ^ w ≡ number row (from + o) w
number_middle row from o w s =
    sym (number_is row (from + o) w (whole / 2 ^ s % 2 ^ w) (mod_below (whole / 2 ^ s) (2 ^ w) (pow_pos w)) same)
  where
    whole : ℕ
    whole = number row from (o + w + s)

    same : (j : ℕ) → j < w → row (from + o + j) ≡ has (whole / 2 ^ s % 2 ^ w) (w - 1 - j)
    same j l =
        let at : from + (o + j) ≡ from + o + j = omega arith in
        let place : s + (w - 1 - j) ≡ o + w + s - 1 - (o + j) = omega arith in
        let cut : has (whole / 2 ^ s % 2 ^ w) (w - 1 - j) ≡ has whole (s + (w - 1 - j)) = has_mod (whole / 2 ^ s) w (w - 1 - j) ∙ ap (λ b. b && has (whole / 2 ^ s) (w - 1 - j)) (lt-ltb (w - 1 - j) w (omega arith)) ∙ has_shr whole s (w - 1 - j) in
        sym (cut ∙ ap (has whole) place ∙ number_has row from (o + w + s) (o + j) (omega arith) ∙ ap row at)
