-- Laws of masks as sets, over any width.
use Rattle.std.proofs.Common.{◌≡◌, ℕ, zero, suc, ◌+◌, ◌-◌, ◌*◌, ◌/◌, ◌%◌, ◌^◌, ◌<◌, ◌≤◌, min, max, Bool, true, false, not, ◌&&◌, ◌||◌, eqb, ltb, leb, ◌⊎◌, ◌↔◌, sym, refl, ap, ◌∙◌, inl, inr, mul_assoc, pow-suc, div-one, arith, pow_pos, pow_mono, pow-add, shr-shr}
use native.Mathlib.Nat.{zero-div, div-eq_of_lt, div_self}
use lib.Bits.{bit_and, bit_or, and_mask, or_shr, and_shr, or_step, and_step, or_lt, and_le_l}
use lib.Pow.{pow-lt, shl-shr}
use lib.Count.{ones, ones_step, ones-le}
use Rattle.std.proofs.lemmas.Nat.{one_shl, or_disjoint}
use Rattle.std.proofs.lemmas.Bool.{cases_eq, cases_lt, cases_order, cases_Bool, eqb-true, eq-eqb, lt-ltb, le-ltb, cond-true, cond-false, cond_below, and_right, and_from, and_parts, ne_eqb, eqb-false, not-true, not_from_false, both_ways, or_cases, or_left, or_right, cond_both}
use Rattle.std.proofs.lemmas.Bool.Decides.{nat_tests}
use Rattle.basics.specs.Alike.{half_bit, same_masks, masks_alike}
use Rattle.basics.specs.Sets.{has, with_member, without_member, within, meets, counted}

-- bit n of a mask
abbrev pub bit : ℕ → ℕ → ℕ
bit m n = m / 2 ^ n % 2

pub or_bit : (a b n : ℕ) → bit (bit_or a b) n ≡ max (bit a n) (bit b n)
or_bit a b n = omega (arith, or_shr a b n, or_step (a / 2 ^ n) (b / 2 ^ n))

pub and_bit : (a b n : ℕ) → bit (bit_and a b) n ≡ min (bit a n) (bit b n)
and_bit a b n = omega (arith, and_shr a b n, and_step (a / 2 ^ n) (b / 2 ^ n))

pub has_or : (a b n : ℕ) → has (bit_or a b) n ≡ (has a n || has b n)
has_or a b n = let h = or_bit a b n in grind (arith, nat_tests)

pub has_and : (a b n : ℕ) → has (bit_and a b) n ≡ (has a n && has b n)
has_and a b n = let h = and_bit a b n in grind (arith, nat_tests)

pub has_none : (n : ℕ) → has 0 n ≡ false
has_none n = let h = zero-div (2 ^ n) in grind (arith, nat_tests)

-- numbers at or past the width are no members
pub has_past : (w m n : ℕ) → m < 2 ^ w → w ≤ n → has m n ≡ false
has_past w m n h g =
    let p : 2 ^ w ≤ 2 ^ n = pow_mono g in
    let z : m / 2 ^ n ≡ 0 = div-eq_of_lt (omega arith) in
    grind (arith, nat_tests)

pow_bit : (j n : ℕ) → bit (2 ^ (j + n)) n ≡ (2 ^ j) % 2
pow_bit j n = ap (λ x. x % 2) (ap (λ x. x / 2 ^ n) (pow-add 2 j n) ∙ shl-shr (2 ^ j) n)

-- the only member of 2 ^ n is n
pub has_one : (n k : ℕ) → has (2 ^ n) k ≡ eqb k n
has_one n k = elim (cases_order k n) [
  | inl q ↦ rw q (let z : 2 ^ n / 2 ^ n ≡ 1 = div_self (pow_pos n) in grind (arith, nat_tests))
  | inr (inl l) ↦
      let z : 2 ^ n ≡ 2 ^ (suc (n - k - 1) + k) = ap (λ x. 2 ^ x) (omega arith) in
      let e : bit (2 ^ n) k ≡ (2 ^ suc (n - k - 1)) % 2 = ap (λ x. bit x k) z ∙ pow_bit (suc (n - k - 1)) k in
      let d = pow-suc 2 (n - k - 1) in
      let even : bit (2 ^ n) k ≡ 0 = omega arith in
      grind (arith, nat_tests)
  | inr (inr l) ↦ let z : 2 ^ n / 2 ^ k ≡ 0 = div-eq_of_lt (pow-lt l) in grind (arith, nat_tests)
]

-- sets with the same members are equal
pub has_ext : (a b : ℕ) → ((n : ℕ) → has a n ≡ has b n) → a ≡ b
has_ext = same_masks

-- a set without members is 0
pub has_empty : (m : ℕ) → ((n : ℕ) → has m n ≡ false) → m ≡ 0
has_empty m e = has_ext m 0 (λ n. e n ∙ sym (has_none n))

-- bit k of `!x` at w bits
clear_bit : (k w x : ℕ) → k < w → x < 2 ^ w → bit (2 ^ w - 1 - x) k ≡ 1 - bit x k
clear_bit k zero x h l = absurd (omega arith)
clear_bit zero (suc w) x h l = omega (arith, pow-suc 2 w, div-one x, div-one (2 ^ suc w - 1 - x))
clear_bit (suc k) (suc w) x h l =
    let p : 2 ^ suc w ≡ 2 ^ w * 2 = pow-suc 2 w in
    let half : (2 ^ suc w - 1 - x) / 2 ≡ 2 ^ w - 1 - x / 2 = omega arith in
    half_bit _ k ∙ ap (λ z. bit z k) half ∙ clear_bit k w (x / 2) (omega arith) (omega arith) ∙ ap (λ z. 1 - z) (sym (half_bit x k))

pub has_with : (w m n k : ℕ) → has (with_member w m n) k ≡ (has m k || (eqb k n && ltb k w))
has_with w m n k = elim (cases_lt n w) [
  | inl l ↦ rw (cond-true (ltb n w) _ _ (lt-ltb n w l), has_or, has_one) (grind (arith, nat_tests))
  | inr g ↦ rw (cond-false (ltb n w) _ _ (le-ltb n w g)) (grind (arith, nat_tests))
]

pub has_without : (w m n k : ℕ) → m < 2 ^ w → has (without_member w m n) k ≡ (has m k && not (eqb k n))
has_without w m n k h = elim (cases_lt n w) [
  | inl l ↦ rw (cond-true (ltb n w) _ _ (lt-ltb n w l), has_and) (elim (cases_lt k w) [
    | inl kw ↦
        let c = clear_bit k w (2 ^ n) kw (pow-lt l) in
        let o = has_one n k in
        grind (arith, nat_tests)
    | inr past ↦ rw (has_past w m k h past) refl
  ])
  | inr g ↦ rw (cond-false (ltb n w) _ _ (le-ltb n w g)) (elim (cases_eq k n) [
    | inl q ↦ let p = has_past w m k h (omega arith) in grind (arith, nat_tests)
    | inr ne ↦ grind (arith, nat_tests)
  ])
]

pub within_members : (a b : ℕ) → (within a b ≡ true) ↔ ((k : ℕ) → has a k ≡ true → has b k ≡ true)
within_members a b = (
  λ e k h. let s = sym (has_and a b k) ∙ ap (λ x. has x k) (eqb-true (bit_and a b) a e) in grind (arith, nat_tests),
  λ f. eq-eqb (bit_and a b) a (has_ext (bit_and a b) a (λ k. has_and a b k ∙ grows k (f k))),
)
  where
    grows : (k : ℕ) → (has a k ≡ true → has b k ≡ true) → (has a k && has b k) ≡ has a k
    grows k f = elim (cases_Bool (has a k)) [ inl t ↦ rw (t, f t) refl | inr e ↦ rw e refl ]

pub empty_members : (m : ℕ) → (eqb m 0 ≡ true) ↔ ((k : ℕ) → has m k ≡ false)
empty_members m = (λ e k. rw (eqb-true m 0 e) (has_none k), λ f. eq-eqb m 0 (has_empty m f))

-- counting members is counting ones
counted_half : (m k : ℕ) → counted (has m) (suc k) ≡ m % 2 + counted (has (m / 2)) k
counted_half m zero = let d = div-one m in grind (arith, nat_tests)
counted_half m (suc k) =
    let e = counted_half m k in
    let h : has m (suc k) ≡ has (m / 2) k = ap (λ x. eqb x 1) (half_bit m k) in
    rw (e, h) (omega arith)

pub counted_ones : (w m : ℕ) → m < 2 ^ w → counted (has m) w ≡ ones m
counted_ones zero m h = let z : m ≡ 0 = omega arith in rw z (omega (arith, ones-le 0 0 (omega arith)))
counted_ones (suc w) m h =
    let p : 2 ^ suc w ≡ 2 ^ w * 2 = pow-suc 2 w in
    omega (arith, counted_half m w, counted_ones w (m / 2) (omega arith), ones_step m)

pub same_members : (a b : ℕ) → (eqb a b ≡ true) ↔ ((k : ℕ) → has a k ≡ has b k)
same_members = masks_alike

-- a new member makes the mask larger
pub with_larger : (w m n : ℕ) → n < w → has m n ≡ false → m < with_member w m n
with_larger w m n l new =
    let apart : bit_and m (2 ^ n) ≡ 0 = has_empty (bit_and m (2 ^ n)) (λ k. has_and m (2 ^ n) k ∙ ap (λ b. has m k && b) (has_one n k) ∙ outside k) in
    rw (cond-true (ltb n w) (bit_or m (2 ^ n)) m (lt-ltb n w l)) (omega (arith, or_disjoint m (2 ^ n) apart, pow_pos n))
  where
    outside : (k : ℕ) → (has m k && eqb k n) ≡ false
    outside k = elim (cases_eq k n) [
      | inl q ↦ rw (q, new) refl
      | inr ne ↦ and_right (has m k) (eqb k n) (ne_eqb k n ne)
    ]

some_within : (f m : ℕ) → m < f → (m ≡ 0 → ⊥) → (n : ℕ) × (has m n ≡ true)
some_within zero m h some = absurd (omega arith)
some_within (suc f) m h some = elim (cases_eq (m % 2) 1) [
  | inl q ↦ (0, eq-eqb (bit m 0) 1 (ap (λ x. x % 2) (div-one m) ∙ q))
  | inr g ↦
      let (n, b) = some_within f (m / 2) (omega arith) (λ z. omega (arith, g, some, z)) in
      (suc n, ap (λ x. eqb x 1) (half_bit m n) ∙ b)
]

-- two sets meet where some number is a member of both
pub meets_members : (a b : ℕ) → (meets a b ≡ true) ↔ ((n : ℕ) × (has a n ≡ true) × (has b n ≡ true))
meets_members a b = (
  λ m.
      let (n, h) = some_within (suc (bit_and a b)) (bit_and a b) (omega arith) (eqb-false (bit_and a b) 0 (not-true _ m)) in
      let (l, r) = and_parts (has a n) (has b n) (sym (has_and a b n) ∙ h) in
      (n, l, r),
  λ (n, l, r). not_from_false _ (ne_eqb (bit_and a b) 0 (λ z.
      both_ways (has 0 n) (has_none n) (ap (λ m. has m n) (sym z) ∙ has_and a b n ∙ and_from _ _ l r))),
)

-- bits of a shifted number, of its low bits, and of its complement
pub has_shl : (m s p : ℕ) → has (m * 2 ^ s) p ≡ (leb s p && has m (p - s))
has_shl m s p = elim (cases_lt p s) [
  | inl l ↦
      let j = s - p - 1 in
      let e : 2 ^ s ≡ 2 ^ j * 2 * 2 ^ p = ap (λ x. 2 ^ x) (split j l) ∙ pow-add 2 (j + 1) p ∙ ap (λ x. x * 2 ^ p) (pow-add 2 j 1) in
      let q : m * 2 ^ s / 2 ^ p ≡ m * (2 ^ j * 2) = ap (λ x. m * x / 2 ^ p) e ∙ ap (λ x. x / 2 ^ p) (sym (mul_assoc m (2 ^ j * 2) (2 ^ p))) ∙ shl-shr (m * (2 ^ j * 2)) p in
      let even : m * (2 ^ j * 2) ≡ m * 2 ^ j * 2 = sym (mul_assoc m (2 ^ j) 2) in
      let z : bit (m * 2 ^ s) p ≡ 0 = omega arith in
      grind (arith, nat_tests)
  | inr g ↦
      let e : 2 ^ p ≡ 2 ^ s * 2 ^ (p - s) = ap (λ x. 2 ^ x) (omega arith) ∙ pow-add 2 s (p - s) in
      let q : m * 2 ^ s / 2 ^ p ≡ m / 2 ^ (p - s) = ap (λ x. m * 2 ^ s / x) (ap (λ x. 2 ^ x) (join g)) ∙ sym (shr-shr (m * 2 ^ s) s (p - s)) ∙ ap (λ x. x / 2 ^ (p - s)) (shl-shr m s) in
      let z : bit (m * 2 ^ s) p ≡ bit m (p - s) = ap (λ x. x % 2) q in
      grind (arith, nat_tests)
]
  where
    split : (j : ℕ) → p < s → s ≡ s - p - 1 + 1 + p
    split j l = omega arith

    join : s ≤ p → p ≡ s + (p - s)
    join g = omega arith

pub has_shr : (m s p : ℕ) → has (m / 2 ^ s) p ≡ has m (s + p)
has_shr m s p = ap (λ x. eqb (x % 2) 1) (shr-shr m s p)

pub has_clear : (w x p : ℕ) → x < 2 ^ w → has (2 ^ w - 1 - x) p ≡ (ltb p w && not (has x p))
has_clear w x p h = elim (cases_lt p w) [
  | inl l ↦ let c = clear_bit p w x l h in grind (arith, nat_tests)
  | inr past ↦
      let z = has_past w (2 ^ w - 1 - x) p (omega (arith, pow_pos w)) past in
      grind (arith, nat_tests)
]

pub has_full : (t p : ℕ) → has (2 ^ t - 1) p ≡ ltb p t
has_full t p =
    let e = has_clear t 0 p (pow_pos t) in
    let z = has_none p in
    grind (arith, nat_tests)

pub has_mod : (m t p : ℕ) → has (m % 2 ^ t) p ≡ (ltb p t && has m p)
has_mod m t p =
    let e : has (m % 2 ^ t) p ≡ (has m p && has (2 ^ t - 1) p) = ap (λ x. has x p) (sym (and_mask m t)) ∙ has_and m (2 ^ t - 1) p in
    let f = has_full t p in
    grind (arith, nat_tests)

pub has_suc : (m n : ℕ) → has m (suc n) ≡ has (m / 2) n
has_suc m n = ap (λ x. eqb x 1) (half_bit m n)

pub counted_le : (p : ℕ → Bool) (k : ℕ) → counted p k ≤ k
counted_le p zero = omega arith
counted_le p (suc k) = let h = counted_le p k in grind (arith, nat_tests)

-- two parts of p that are more than p together have a member in common
crowded : (p a b w : ℕ) → counted (has p) w < counted (has (bit_and p a)) w + counted (has (bit_and p b)) w → (n : ℕ) × (has p n ≡ true) × (has a n ≡ true) × (has b n ≡ true)
crowded p a b zero h = absurd (omega arith)
crowded p a b (suc w) h = elim (cases_Bool (has p w && (has a w && has b w))) [
  | inl t ↦ let (up, both) = and_parts (has p w) _ t in let (l, r) = and_parts (has a w) _ both in (w, up, l, r)
  | inr f ↦
      let l = has_and p a w in
      let r = has_and p b w in
      crowded p a b w (grind (arith, nat_tests))
]

-- two majorities of p have a member in common
pub majorities : (p a b w : ℕ) → counted (has p) w < 2 * counted (has (bit_and p a)) w → counted (has p) w < 2 * counted (has (bit_and p b)) w → (n : ℕ) × (has p n ≡ true) × (has a n ≡ true) × (has b n ≡ true)
majorities p a b w one two = crowded p a b w (omega arith)

-- a single member that is in a is a majority
pub single : (p a w : ℕ) → counted (has p) w ≡ 1 → within p a ≡ true → counted (has p) w < 2 * counted (has (bit_and p a)) w
single p a w one part =
    let same : counted (has (bit_and p a)) w ≡ counted (has p) w = ap (λ m. counted (has m) w) (eqb-true (bit_and p a) p part) in
    omega arith

-- membership as a fact
pub no_member : (n : ℕ) → has 0 n ≡ true → ⊥
no_member n = both_ways (has 0 n) (has_none n)

pub or_members : (a b n : ℕ) → (has (bit_or a b) n ≡ true) ↔ ((has a n ≡ true) ⊎ (has b n ≡ true))
or_members a b n = rw has_or (
  or_cases (has a n) (has b n),
  elim [ inl h ↦ or_left (has a n) (has b n) h | inr h ↦ or_right (has a n) (has b n) h ],
)

pub with_members : (w m n k : ℕ) → n < w → (has (with_member w m n) k ≡ true) ↔ ((has m k ≡ true) ⊎ (k ≡ n))
with_members w m n k l = rw has_with (
  λ h. elim (or_cases (has m k) _ h) [ inl a ↦ inl a | inr b ↦ inr (eqb-true k n (and_parts (eqb k n) (ltb k w) b).0) ],
  elim [
    | inl a ↦ or_left (has m k) _ a
    | inr q ↦ or_right (has m k) _ (and_from (eqb k n) (ltb k w) (eq-eqb k n q) (lt-ltb k w (omega arith)))
  ],
)

pub without_members : (w m n k : ℕ) → m < 2 ^ w → (has (without_member w m n) k ≡ true) ↔ ((has m k ≡ true) × (k ≡ n → ⊥))
without_members w m n k h = rw (has_without w m n k h) (
  λ e. let (a, b) = and_parts (has m k) (not (eqb k n)) e in (a, eqb-false k n (not-true _ b)),
  λ (a, ne). and_from (has m k) (not (eqb k n)) a (not_from_false _ (ne_eqb k n ne)),
)

-- the mask stays within its width
pub with_lt : (w m n : ℕ) → m < 2 ^ w → with_member w m n < 2 ^ w
with_lt w m n h = elim (cases_lt n w) [
  | inl l ↦ rw (cond-true (ltb n w) (bit_or m (2 ^ n)) m (lt-ltb n w l)) (or_lt w m (2 ^ n) h (pow-lt l))
  | inr g ↦ rw (cond-false (ltb n w) (bit_or m (2 ^ n)) m (le-ltb n w g)) h
]

pub without_lt : (w m n : ℕ) → m < 2 ^ w → without_member w m n < 2 ^ w
without_lt w m n h =
    cond_both (ltb n w) (bit_and m (2 ^ w - 1 - 2 ^ n)) m (λ x. x < 2 ^ w) (λ e. omega (arith, and_le_l m (2 ^ w - 1 - 2 ^ n))) (λ e. h)

-- what a program of v bits computes at a set of w bits: `m | (1 << n)` and `m & !(1 << n)`
pub shifted_with : (v w m n : ℕ) → n < w → w ≤ v → bit_or m ((1 * 2 ^ n) % 2 ^ v) ≡ with_member w m n
shifted_with v w m n h le =
    ap (bit_or m) (one_shl n v (omega arith)) ∙ cond_below n w (bit_or m (2 ^ n)) m h

cleared : (v w m n : ℕ) → n < w → w ≤ v → m < 2 ^ w → bit_and m (2 ^ v - 1 - 2 ^ n) ≡ bit_and m (2 ^ w - 1 - 2 ^ n)
cleared v w m n h le fits = has_ext _ _ (λ k. rw (has_and, has_and, has_clear v (2 ^ n) k (pow-lt (omega arith)), has_clear w (2 ^ n) k (pow-lt h)) (same k))
  where
    same : (k : ℕ) → (has m k && (ltb k v && not (has (2 ^ n) k))) ≡ (has m k && (ltb k w && not (has (2 ^ n) k)))
    same k = elim (cases_lt k w) [
      | inl l ↦ grind (arith, nat_tests)
      | inr past ↦ rw (has_past w m k fits past) refl
    ]

pub shifted_without : (v w m n : ℕ) → n < w → w ≤ v → m < 2 ^ w → bit_and m (2 ^ v - 1 - (1 * 2 ^ n) % 2 ^ v) ≡ without_member w m n
shifted_without v w m n h le fits =
    ap (λ x. bit_and m (2 ^ v - 1 - x)) (one_shl n v (omega arith)) ∙ cleared v w m n h le fits ∙ cond_below n w (bit_and m (2 ^ w - 1 - 2 ^ n)) m h

-- the same of any mask, where the program has as many bits as the set
pub shifted_without_own : (w m n : ℕ) → n < w → bit_and m (2 ^ w - 1 - (1 * 2 ^ n) % 2 ^ w) ≡ without_member w m n
shifted_without_own w m n h =
    ap (λ x. bit_and m (2 ^ w - 1 - x)) (one_shl n w h) ∙ cond_below n w (bit_and m (2 ^ w - 1 - 2 ^ n)) m h

-- the members of a that are none of b, as a program of v bits computes them: `a & !b`
pub has_minus : (v a b k : ℕ) → a < 2 ^ v → b < 2 ^ v → has (bit_and a (2 ^ v - 1 - b)) k ≡ (has a k && not (has b k))
has_minus v a b k ha hb = rw (has_and, has_clear v b k hb) (elim (cases_lt k v) [
  | inl l ↦ grind (arith, nat_tests)
  | inr past ↦ rw (has_past v a k ha past) refl
])
