-- Some bits in a row of bytes replaced, a byte at a time.
use Rattle.std.proofs.Common.{◌≡◌, ℕ, ◌+◌, ◌-◌, ◌*◌, ◌/◌, ◌%◌, ◌^◌, ◌<◌, ◌≤◌, Bool, true, false, cond, ◌&&◌, ltb, leb, List, length, get_or, set, take, drop, sym, ap, ◌∙◌, inl, inr, arith, get_or-set_other, get_or-set_same, length-take}
use borrow.Rule.Slice.PartMut.{put_mid}
use Rattle.std.proofs.lemmas.List.{get_or-take, get_or-drop, get_or-append_right}
use Rattle.std.proofs.lemmas.Slice.{take-put_mid_below, take-put_mid, drop-put_mid}
use Rattle.std.proofs.lemmas.Bool.{cases_lt, cases_eq, lt-ltb, le-ltb, le-leb, lt-leb}
use Rattle.std.proofs.lemmas.Bool.Decides.{nat_tests}
use Rattle.basics.specs.Sets.{has}
use Rattle.basics.proofs.Masks.{has_shl, has_full}
use Rattle.image_model.specs.Image.{image_bit, with_field}

-- the bits of byte k are replaced where the mask has them, so the field is written up to the end of that byte
pub run_step : (first image : List ℕ) (at width u spare last k byte : ℕ) → at + width + spare ≡ 8 * last → k < last → k < length image → ((p : ℕ) → has byte p ≡ cond (ltb p 8 && has ((2 ^ width - 1) * 2 ^ spare) (8 * (last - 1 - k) + p)) (ltb p 8 && has (u * 2 ^ spare) (8 * (last - 1 - k) + p)) (has (get_or image k 0) p)) → ((i : ℕ) → image_bit image i ≡ cond (ltb i (8 * k)) (with_field (image_bit first) at width u i) (image_bit first i)) → (i : ℕ) → image_bit (set image k byte) i ≡ cond (ltb i (8 * (k + 1))) (with_field (image_bit first) at width u i) (image_bit first i)
run_step first image at width u spare last k byte ends below room patched was i = elim (cases_eq (i / 8) k) [
  | inl here ↦
      let p = 7 - i % 8 in
      let q = 8 * (last - 1 - k) + p in
      let read : image_bit (set image k byte) i ≡ has byte p = ap (λ j. has (get_or (set image k byte) j 0) p) here ∙ ap (λ b. has b p) (get_or-set_same image k byte 0 room) in
      let old : has (get_or image k 0) p ≡ image_bit image i = ap (λ j. has (get_or image j 0) p) (sym here) in
      let new = read ∙ patched p in
      let kept = old ∙ was i in
      let low : ltb p 8 ≡ true = lt-ltb p 8 (omega arith) in
      let todo : ltb i (8 * k) ≡ false = le-ltb i (8 * k) (omega arith) in
      let done : ltb i (8 * (k + 1)) ≡ true = lt-ltb i (8 * (k + 1)) (omega arith) in
      let mask = has_shl (2 ^ width - 1) spare q in
      let full = has_full width (q - spare) in
      let bits = has_shl u spare q in
      elim (cases_lt i at) [
        | inl before ↦
            let out : leb at i ≡ false = lt-leb at i before in
            let none : ltb (q - spare) width ≡ false = le-ltb (q - spare) width (omega arith) in
            grind (arith, nat_tests)
        | inr after ↦ elim (cases_lt i (at + width)) [
          | inl inside ↦
              let some : ltb (q - spare) width ≡ true = lt-ltb (q - spare) width (omega arith) in
              let over : leb spare q ≡ true = le-leb spare q (omega arith) in
              let yes1 : leb at i ≡ true = le-leb at i after in
              let yes2 : ltb i (at + width) ≡ true = lt-ltb i (at + width) inside in
              let place : q - spare ≡ width - 1 - (i - at) = omega arith in
              let same : has u (q - spare) ≡ has u (width - 1 - (i - at)) = ap (has u) place in
              grind (arith, nat_tests)
          | inr past ↦
              let none : leb spare q ≡ false = lt-leb spare q (omega arith) in
              let out : ltb i (at + width) ≡ false = le-ltb i (at + width) past in
              grind (arith, nat_tests)
        ]
      ]
  | inr ne ↦
      let same : image_bit (set image k byte) i ≡ image_bit image i = ap (λ b. has b (7 - i % 8)) (get_or-set_other image k (i / 8) byte 0 ne) in
      let now = same ∙ was i in
      elim (cases_lt i (8 * k)) [
        | inl l ↦ let a : ltb i (8 * (k + 1)) ≡ true = lt-ltb i (8 * (k + 1)) (omega arith) in grind (arith, nat_tests)
        | inr g ↦ let a : ltb i (8 * (k + 1)) ≡ false = le-ltb i (8 * (k + 1)) (omega arith) in grind (arith, nat_tests)
      ]
]

-- past the last byte there is none of the field
pub run_end : (row : ℕ → Bool) (at width u last i : ℕ) → at + width ≤ 8 * last → cond (ltb i (8 * last)) (with_field row at width u i) (row i) ≡ with_field row at width u i
run_end row at width u last i ends = elim (cases_lt i (8 * last)) [
  | inl l ↦ let a : ltb i (8 * last) ≡ true = lt-ltb i (8 * last) l in grind (arith, nat_tests)
  | inr g ↦
      let a : ltb i (8 * last) ≡ false = le-ltb i (8 * last) g in
      let out : ltb i (at + width) ≡ false = le-ltb i (at + width) (omega arith) in
      grind (arith, nat_tests)
]

-- a field that is written in a part of the image is written in the image
pub run_within : (image bytes : List ℕ) (a k at width u : ℕ) → a + k ≤ length image → 8 * a ≤ at → at + width ≤ 8 * (a + k) → length bytes ≡ k → ((i : ℕ) → image_bit bytes i ≡ with_field (image_bit (take k (drop a image))) (at - 8 * a) width u i) → (i : ℕ) → image_bit (put_mid a k image bytes) i ≡ with_field (image_bit image) at width u i
run_within image bytes a k at width u fits starts ends long was i = elim (cases_lt (i / 8) a) [
  | inl under ↦
      let same : get_or whole (i / 8) 0 ≡ get_or image (i / 8) 0 = sym (get_or-take a whole (i / 8) 0 under) ∙ ap (λ xs. get_or xs (i / 8) 0) (take-put_mid_below a k image bytes a (omega arith) (omega arith)) ∙ get_or-take a image (i / 8) 0 under in
      let bit : image_bit whole i ≡ image_bit image i = ap (λ b. has b (7 - i % 8)) same in
      let out : leb at i ≡ false = lt-leb at i (omega arith) in
      grind (arith, nat_tests)
  | inr over ↦ elim (cases_lt (i / 8) (a + k)) [
    | inl inside ↦
        let j = i - 8 * a in
        let eighth : i / 8 - a ≡ j / 8 = omega arith in
        let rest : i % 8 ≡ j % 8 = omega arith in
        let back : a + j / 8 ≡ i / 8 = omega arith in
        let front : length (take a image) ≡ a = omega (arith, length-take a image) in
        let same : get_or whole (i / 8) 0 ≡ get_or bytes (j / 8) 0 = sym (get_or-take (a + k) whole (i / 8) 0 inside) ∙ ap (λ xs. get_or xs (i / 8) 0) (take-put_mid a k image bytes (a + k) (omega arith) (omega arith)) ∙ get_or-append_right (take a image) bytes a (i / 8) 0 front over ∙ ap (λ m. get_or bytes m 0) eighth in
        let bit : image_bit whole i ≡ image_bit bytes j = ap (λ b. has b (7 - i % 8)) same ∙ ap (λ m. has (get_or bytes (j / 8) 0) (7 - m)) rest in
        let part : get_or (take k (drop a image)) (j / 8) 0 ≡ get_or image (i / 8) 0 = get_or-take k (drop a image) (j / 8) 0 (omega arith) ∙ get_or-drop a image (j / 8) 0 ∙ ap (λ m. get_or image m 0) back in
        let old : image_bit (take k (drop a image)) j ≡ image_bit image i = ap (λ b. has b (7 - j % 8)) part ∙ ap (λ m. has (get_or image (i / 8) 0) (7 - m)) (sym rest) in
        let now = bit ∙ was j in
        elim (cases_lt i at) [
          | inl before ↦
              let out1 : leb (at - 8 * a) j ≡ false = lt-leb (at - 8 * a) j (omega arith) in
              let out2 : leb at i ≡ false = lt-leb at i before in
              grind (arith, nat_tests)
          | inr after ↦
              let place : j - (at - 8 * a) ≡ i - at = omega arith in
              let bits : has u (width - 1 - (j - (at - 8 * a))) ≡ has u (width - 1 - (i - at)) = ap (λ m. has u (width - 1 - m)) place in
              let in1 : leb (at - 8 * a) j ≡ true = le-leb (at - 8 * a) j (omega arith) in
              let in2 : leb at i ≡ true = le-leb at i after in
              elim (cases_lt i (at + width)) [
                | inl l ↦
                    let yes1 : ltb j (at - 8 * a + width) ≡ true = lt-ltb j (at - 8 * a + width) (omega arith) in
                    let yes2 : ltb i (at + width) ≡ true = lt-ltb i (at + width) l in
                    grind (arith, nat_tests)
                | inr g ↦
                    let no1 : ltb j (at - 8 * a + width) ≡ false = le-ltb j (at - 8 * a + width) (omega arith) in
                    let no2 : ltb i (at + width) ≡ false = le-ltb i (at + width) g in
                    grind (arith, nat_tests)
              ]
        ]
    | inr past ↦
        let back : a + k + (i / 8 - (a + k)) ≡ i / 8 = omega arith in
        let same : get_or whole (i / 8) 0 ≡ get_or image (i / 8) 0 = ap (λ m. get_or whole m 0) (sym back) ∙ sym (get_or-drop (a + k) whole (i / 8 - (a + k)) 0) ∙ ap (λ xs. get_or xs (i / 8 - (a + k)) 0) (drop-put_mid a k image bytes (a + k) (omega arith) (omega arith) long) ∙ get_or-drop (a + k) image (i / 8 - (a + k)) 0 ∙ ap (λ m. get_or image m 0) back in
        let bit : image_bit whole i ≡ image_bit image i = ap (λ b. has b (7 - i % 8)) same in
        let out : ltb i (at + width) ≡ false = le-ltb i (at + width) (omega arith) in
        grind (arith, nat_tests)
  ]
]
  where
    whole : List ℕ
    whole = put_mid a k image bytes
