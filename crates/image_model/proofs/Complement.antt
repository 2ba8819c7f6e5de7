-- Two's complement there and back.
use Rattle.std.proofs.Common.{◌≡◌, ℕ, suc, ◌-◌, ◌^◌, ◌<◌, ◌≤◌, true, false, ltb, leb, ℤ, pos, negsuc, ◌-ℤ◌, nat_abs, refl, ap, ◌∙◌, inl, inr, arith, pow_pos}
use lib.Signed.{le_z}
use Rattle.std.proofs.lemmas.Int.{ints}
use Rattle.std.proofs.lemmas.Bool.{and_parts, leb-true, lt-ltb, le-ltb, cond-true, cond-false, cases_lt, and_from, le-leb, both_ways}
use Rattle.image_model.specs.Image.{signed, bits_of, lowest}
use Rattle.image_model.specs.Fields.{fits}
use Rattle.image_model.specs.ImageLaws.{double}

pub negative_room : (w n : ℕ) → le_z (lowest w) (negsuc n) ≡ true → suc n ≤ 2 ^ (w - 1)
negative_room w n h = grind (arith, ints)

pub bits_small : (w : ℕ) (z : ℤ) → 2 ≤ w → fits w z ≡ true → bits_of w z < 2 ^ w
bits_small w (pos n) h f =
    let l = leb-true n (2 ^ (w - 1) - 1) (and_parts (le_z (lowest w) (pos n)) _ f).1 in
    omega (arith, double w h, pow_pos (w - 1))
bits_small w (negsuc n) h f =
    let l = negative_room w n (and_parts (le_z (lowest w) (negsuc n)) _ f).0 in
    omega (arith, double w h, pow_pos (w - 1))

pub bits_back : (w : ℕ) (z : ℤ) → 2 ≤ w → fits w z ≡ true → signed w (bits_of w z) ≡ z
bits_back w (pos n) h f =
    let l = leb-true n (2 ^ (w - 1) - 1) (and_parts (le_z (lowest w) (pos n)) _ f).1 in
    cond-true (ltb n (2 ^ (w - 1))) _ _ (lt-ltb n (2 ^ (w - 1)) (omega (arith, pow_pos (w - 1))))
bits_back w (negsuc n) h f =
    let l = negative_room w n (and_parts (le_z (lowest w) (negsuc n)) _ f).0 in
    let d = double w h in
    let big : 2 ^ (w - 1) ≤ 2 ^ w - suc n = omega arith in
    cond-false (ltb (2 ^ w - suc n) (2 ^ (w - 1))) (pos (2 ^ w - suc n)) _ (le-ltb (2 ^ w - suc n) (2 ^ (w - 1)) big) ∙ omega (arith, ints)

-- what the top bit makes negative
below_nought : (a b : ℕ) → a < b → pos a -ℤ pos b ≡ negsuc (b - a - 1)
below_nought a b h = omega (arith, ints)

-- and the other way: the bits of what u stands for are u's
pub signed_bits : (w u : ℕ) → 2 ≤ w → u < 2 ^ w → bits_of w (signed w u) ≡ u
signed_bits w u h l = elim (cases_lt u (2 ^ (w - 1))) [
  | inl low ↦ ap (bits_of w) (cond-true (ltb u (2 ^ (w - 1))) (pos u) _ (lt-ltb u (2 ^ (w - 1)) low))
  | inr high ↦
      ap (bits_of w) (cond-false (ltb u (2 ^ (w - 1))) (pos u) _ (le-ltb u (2 ^ (w - 1)) high) ∙ below_nought u (2 ^ w) l) ∙ omega arith
]

-- a field's value fits the field
pub signed_fits : (w u : ℕ) → 2 ≤ w → u < 2 ^ w → fits w (signed w u) ≡ true
signed_fits w u h l = elim (cases_lt u (2 ^ (w - 1))) [
  | inl low ↦
      ap (fits w) (cond-true (ltb u (2 ^ (w - 1))) (pos u) _ (lt-ltb u (2 ^ (w - 1)) low))
      ∙ and_from _ _ (ap (λ z. le_z z (pos u)) least) (le-leb u (2 ^ (w - 1) - 1) (omega arith))
  | inr high ↦
      ap (fits w) (cond-false (ltb u (2 ^ (w - 1))) (pos u) _ (le-ltb u (2 ^ (w - 1)) high) ∙ below_nought u (2 ^ w) l)
      ∙ and_from _ _ (ap (λ z. le_z z (negsuc (2 ^ w - u - 1))) least ∙ le-leb (2 ^ w - u - 1) (2 ^ (w - 1) - 0 - 1) (omega (arith, double w h))) refl
]
  where
    least : lowest w ≡ negsuc (2 ^ (w - 1) - 0 - 1)
    least = below_nought 0 (2 ^ (w - 1)) (pow_pos (w - 1))

-- a negative number of w bits is not below −2^w
pub negative_small : (w : ℕ) (z : ℤ) → 2 ≤ w → le_z (pos 0) z ≡ false → fits w z ≡ true → nat_abs z ≤ 2 ^ w
negative_small w (pos n) h s f = absurd (both_ways (leb 0 n) s (le-leb 0 n (omega arith)))
negative_small w (negsuc n) h s f =
    let l = negative_room w n (and_parts (le_z (lowest w) (negsuc n)) _ f).0 in
    omega (arith, double w h)
