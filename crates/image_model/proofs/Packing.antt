-- Packing all fields, unpacking them, and both ways round.
use Rattle.std.proofs.Common.{◌≡◌, ℕ, zero, suc, ◌+◌, ◌-◌, ◌*◌, ◌<◌, ◌≤◌, Bool, true, false, cond, ◌&&◌, ltb, leb, List, [], ◌∷◌, ◌++◌, length, get_or, take, drop, ℤ, pos, Some, None, Option, Ok, sym, refl, ap, ◌∙◌, inl, inr, arith, length-append, length-drop}
use Rattle.std.proofs.lemmas.List.{same_lists, get_or-drop, get_or_append_left, get_or-append_right, get_or_default, get_or_push, take_more}
use Rattle.std.specs.List.{list_all, range_with_len, zip}
use Rattle.std.proofs.lemmas.Bool.{cases_lt, cond-true, cond-false, lt-ltb, le-ltb, ltb-false, and_parts, or_parts}
use Rattle.std.proofs.lemmas.Bool.Decides.{nat_tests}
use Rattle.basics.specs.declared.refusal.Refusal.{Refusal}
use Rattle.basics.specs.declared.refusal.Refusal.TheVariants.{ShortBuffer, OutOfRange}
use Rattle.basics.proofs.Refusing.{none_applies, none_holds}
use Rattle.basics.specs.Refusals.{answer_unless}
use Rattle.basics.specs.Sets.{has}
use Rattle.basics.proofs.Masks.{has_none}
use Rattle.plans.specs.declared.plan.Node.{Node}
use Rattle.plans.specs.Nodes.{node_at, field_start}
use Rattle.plans.proofs.Starts.{start_next}
use Rattle.image_model.specs.Image.{image_bit, number, bytes, signed, bits_of, with_field}
use Rattle.image_model.specs.Fields.{plan_bits, plan_bytes, field_value, unpacked, packed_bit, packed, spare_cleared, fits, all_fit, too_short, short_refusal, pack_refusal}
use Rattle.image_model.specs.ImageLaws.{number_lt}
use Rattle.image_model.proofs.Complement.{bits_small, bits_back, signed_bits}
use Rattle.image_model.proofs.Places.{field_inside}
use Rattle.image_model.proofs.Numbers.{number_is, number_same, number_has, byte_is}

-- a bit of the packed row lies in its node's field
pub packed_at : (nodes : List Node) (vs : List ℤ) (n j : ℕ) → n < length nodes → n < length vs → j < (node_at nodes n).width → packed_bit nodes vs (field_start nodes n + j) ≡ has (bits_of (node_at nodes n).width (get_or vs n (pos 0))) ((node_at nodes n).width - 1 - j)
packed_at [] vs n j l m h = absurd (omega arith)
packed_at (x ∷ xs) [] n j l m h = absurd (omega arith)
packed_at (x ∷ xs) (v ∷ vs) zero j l m h =
    let z : 0 + j ≡ j = omega arith in
    ap (packed_bit (x ∷ xs) (v ∷ vs)) z ∙ cond-true (ltb j x.width) _ _ (lt-ltb j x.width h)
packed_at (x ∷ xs) (v ∷ vs) (suc n) j l m h =
    let i = x.width + field_start xs n + j in
    let z : i - x.width ≡ field_start xs n + j = omega arith in
    cond-false (ltb i x.width) _ _ (le-ltb i x.width (omega arith))
    ∙ ap (packed_bit xs vs) z ∙ packed_at xs vs n j (omega arith) (omega arith) h

-- past the last field all bits are 0
pub packed_past : (nodes : List Node) (vs : List ℤ) (i : ℕ) → plan_bits nodes ≤ i → packed_bit nodes vs i ≡ false
packed_past [] vs i h = refl
packed_past (x ∷ xs) [] i h = refl
packed_past (x ∷ xs) (v ∷ vs) i h =
    cond-false (ltb i x.width) _ _ (le-ltb i x.width (omega arith)) ∙ packed_past xs vs (i - x.width) (omega arith)

-- one field more is packed
pub pack_step : (nodes : List Node) (vs : List ℤ) (row after : ℕ → Bool) (first : ℕ → Bool) (n u : ℕ) → n < length nodes → n < length vs → u ≡ bits_of (node_at nodes n).width (get_or vs n (pos 0)) → ((i : ℕ) → row i ≡ cond (ltb i (field_start nodes n)) (packed_bit nodes vs i) (first i)) → ((i : ℕ) → after i ≡ with_field row (field_start nodes n) (node_at nodes n).width u i) → (i : ℕ) → after i ≡ cond (ltb i (field_start nodes (n + 1))) (packed_bit nodes vs i) (first i)
pack_step nodes vs row after first n u l m is was now i =
    let next = start_next nodes n l in
    let a = now i in
    let b = was i in
    elim (cases_lt i (field_start nodes n)) [
      | inl before ↦ grind (arith, nat_tests)
      | inr over ↦ elim (cases_lt i (field_start nodes n + (node_at nodes n).width)) [
        | inl inside ↦
            let j = i - field_start nodes n in
            let place : field_start nodes n + j ≡ i = omega arith in
            let bit : packed_bit nodes vs i ≡ has u ((node_at nodes n).width - 1 - j) = ap (packed_bit nodes vs) (sym place) ∙ packed_at nodes vs n j l m (omega arith) ∙ ap (λ m. has m ((node_at nodes n).width - 1 - j)) (sym is) in
            let yes1 : leb (field_start nodes n) i ≡ true = grind (arith, nat_tests) in
            let yes2 : ltb i (field_start nodes n + (node_at nodes n).width) ≡ true = lt-ltb i _ inside in
            let yes3 : ltb i (field_start nodes (n + 1)) ≡ true = lt-ltb i _ (omega arith) in
            grind (arith, nat_tests)
        | inr past ↦ grind (arith, nat_tests)
      ]
    ]

-- and the spare bits are cleared
pub pack_end : (nodes : List Node) (vs : List ℤ) (row after : ℕ → Bool) (first : ℕ → Bool) (spare : ℕ) → plan_bits nodes + spare ≡ 8 * plan_bytes nodes → ((i : ℕ) → row i ≡ cond (ltb i (plan_bits nodes)) (packed_bit nodes vs i) (first i)) → ((i : ℕ) → after i ≡ with_field row (plan_bits nodes) spare 0 i) → (i : ℕ) → after i ≡ cond (ltb i (8 * plan_bytes nodes)) (packed_bit nodes vs i) (first i)
pack_end nodes vs row after first spare whole was now i =
    let a = now i in
    let b = was i in
    elim (cases_lt i (plan_bits nodes)) [
      | inl before ↦ grind (arith, nat_tests)
      | inr over ↦
          let z = packed_past nodes vs i over in
          let c = has_none (spare - 1 - (i - plan_bits nodes)) in
          grind (arith, nat_tests)
    ]

length_bytes : (row : ℕ → Bool) (m : ℕ) → length (bytes row m) ≡ m
length_bytes row zero = refl
length_bytes row (suc m) = length-append (bytes row m) (number row (8 * m) 8 ∷ []) ∙ omega (arith, length_bytes row m)

bytes_at : (row : ℕ → Bool) (m k d : ℕ) → k < m → get_or (bytes row m) k d ≡ number row (8 * k) 8
bytes_at row zero k d h = absurd (omega arith)
bytes_at row (suc m) k d h = elim (cases_lt k m) [
  | inl l ↦ get_or_append_left (bytes row m) (number row (8 * m) 8 ∷ []) d k (omega (arith, length_bytes row m)) ∙ bytes_at row m k d l
  | inr g ↦ let q : k ≡ m = omega arith in get_or_push (bytes row m) (number row (8 * m) 8) d k (length_bytes row m ∙ sym q) ∙ ap (λ n. number row (8 * n) 8) (sym q)
]

-- an image whose first bytes have the bits of a row, and whose other bytes are as they were
pub image_is : (image first : List ℕ) (row : ℕ → Bool) (m : ℕ) → ((k : ℕ) → get_or image k 0 < 256) → ((k : ℕ) → get_or first k 0 < 256) → length image ≡ length first → m ≤ length first → ((i : ℕ) → image_bit image i ≡ cond (ltb i (8 * m)) (row i) (image_bit first i)) → image ≡ bytes row m ++ drop m first
image_is image first row m small small-first long fit bits =
    same_lists image (bytes row m ++ drop m first)
    (long ∙ sym (length-append (bytes row m) (drop m first) ∙ omega (arith, length_bytes row m, length-drop m first)))
    (λ k d h. get_or_default image k d 0 h ∙ sym (byte_is image k (small k)) ∙ elim (cases_lt k m) [
      | inl l ↦
          number_same (image_bit image) row (8 * k) 8 (λ j b. bits (8 * k + j) ∙ cond-true (ltb (8 * k + j) (8 * m)) _ _ (lt-ltb (8 * k + j) (8 * m) (omega arith)))
          ∙ sym (get_or_append_left (bytes row m) (drop m first) d k (omega (arith, length_bytes row m)) ∙ bytes_at row m k d l)
      | inr g ↦
          let back : m + (k - m) ≡ k = omega arith in
          number_same (image_bit image) (image_bit first) (8 * k) 8 (λ j b. bits (8 * k + j) ∙ cond-false (ltb (8 * k + j) (8 * m)) _ _ (le-ltb (8 * k + j) (8 * m) (omega arith)))
          ∙ byte_is first k (small-first k)
          ∙ sym (get_or-append_right (bytes row m) (drop m first) m k d (length_bytes row m) g ∙ get_or-drop m first (k - m) d ∙ ap (λ i. get_or first i d) back ∙ get_or_default first k d 0 (omega arith))
    ])

-- a bit of the image lies in some node's field
find_field : (nodes : List Node) (i : ℕ) → i < plan_bits nodes → (n : ℕ) × (j : ℕ) × (n < length nodes) × (j < (node_at nodes n).width) × (field_start nodes n + j ≡ i)
find_field [] i h = absurd (omega arith)
find_field (x ∷ xs) i h = elim (cases_lt i x.width) [
  | inl l ↦ (0, i, omega arith, l, omega arith)
  | inr g ↦
      let (n, j, below, inside, at) = find_field xs (i - x.width) (omega arith) in
      (suc n, j, omega arith, inside, omega arith)
]

length_unpacked : (nodes : List Node) (image : List ℕ) (k : ℕ) → length (unpacked nodes image k) ≡ k
length_unpacked nodes image zero = refl
length_unpacked nodes image (suc k) = length-append (unpacked nodes image k) (field_value nodes image k ∷ []) ∙ omega (arith, length_unpacked nodes image k)

unpacked_at : (nodes : List Node) (image : List ℕ) (k n : ℕ) (d : ℤ) → n < k → get_or (unpacked nodes image k) n d ≡ field_value nodes image n
unpacked_at nodes image zero n d h = absurd (omega arith)
unpacked_at nodes image (suc k) n d h = elim (cases_lt n k) [
  | inl l ↦ get_or_append_left (unpacked nodes image k) (field_value nodes image k ∷ []) d n (omega (arith, length_unpacked nodes image k)) ∙ unpacked_at nodes image k n d l
  | inr g ↦ let q : n ≡ k = omega arith in get_or_push (unpacked nodes image k) (field_value nodes image k) d n (length_unpacked nodes image k ∙ sym q) ∙ ap (field_value nodes image) (sym q)
]

bytes_same : (row other : ℕ → Bool) (m : ℕ) → ((i : ℕ) → row i ≡ other i) → bytes row m ≡ bytes other m
bytes_same row other zero h = refl
bytes_same row other (suc m) h = ap (λ xs. xs ++ (number row (8 * m) 8 ∷ [])) (bytes_same row other m h) ∙ ap (λ n. bytes other m ++ (n ∷ [])) (number_same row other (8 * m) 8 (λ j _. h (8 * m + j)))

-- packing what was unpacked gives the image with its spare bits cleared
pub pack_unpacked : (nodes : List Node) (image : List ℕ) (rest : List ℤ) → ((n : ℕ) → n < length nodes → 2 ≤ (node_at nodes n).width) → packed nodes (unpacked nodes image (length nodes) ++ rest) ≡ spare_cleared nodes image
pack_unpacked nodes image rest wide = bytes_same (packed_bit nodes vs) (λ i. ltb i (plan_bits nodes) && image_bit image i) (plan_bytes nodes) (λ i. elim (cases_lt i (plan_bits nodes)) [
  | inl l ↦
      let (n, j, below, inside, at) = find_field nodes i l in
      let w = (node_at nodes n).width in
      let u = number (image_bit image) (field_start nodes n) w in
      let many : n < length vs = omega (arith, length-append (unpacked nodes image (length nodes)) rest, length_unpacked nodes image (length nodes)) in
      let value : get_or vs n (pos 0) ≡ signed w u = get_or_append_left (unpacked nodes image (length nodes)) rest (pos 0) n (omega (arith, length_unpacked nodes image (length nodes))) ∙ unpacked_at nodes image (length nodes) n (pos 0) below in
      ap (packed_bit nodes vs) (sym at) ∙ packed_at nodes vs n j below many inside
      ∙ ap (λ v. has (bits_of w v) (w - 1 - j)) value
      ∙ ap (λ m. has m (w - 1 - j)) (signed_bits w u (wide n below) (number_lt (image_bit image) (field_start nodes n) w))
      ∙ number_has (image_bit image) (field_start nodes n) w j inside
      ∙ ap (image_bit image) at
      ∙ sym (ap (λ b. b && image_bit image i) (lt-ltb i (plan_bits nodes) l))
  | inr g ↦ packed_past nodes vs i g ∙ sym (ap (λ b. b && image_bit image i) (le-ltb i (plan_bits nodes) g))
])
  where
    vs : List ℤ
    vs = unpacked nodes image (length nodes) ++ rest

pub fit_at : (nodes : List Node) (vs : List ℤ) (n : ℕ) → all_fit nodes vs ≡ true → n < length nodes → n < length vs → fits (node_at nodes n).width (get_or vs n (pos 0)) ≡ true
fit_at [] vs n f l m = absurd (omega arith)
fit_at (x ∷ xs) [] n f l m = absurd (omega arith)
fit_at (x ∷ xs) (v ∷ vs) zero f l m = (and_parts (fits x.width v) _ f).0
fit_at (x ∷ xs) (v ∷ vs) (suc n) f l m = fit_at xs vs n (and_parts (fits x.width v) _ f).1 (omega arith) (omega arith)

-- unpacking what was packed gives the values
pub unpack_packed : (nodes : List Node) (vs : List ℤ) (image : List ℕ) (first : ℕ → Bool) → ((n : ℕ) → n < length nodes → 2 ≤ (node_at nodes n).width) → all_fit nodes vs ≡ true → length nodes ≤ length vs → ((i : ℕ) → image_bit image i ≡ cond (ltb i (8 * plan_bytes nodes)) (packed_bit nodes vs i) (first i)) → (k : ℕ) → k ≤ length nodes → unpacked nodes image k ≡ take k vs
unpack_packed nodes vs image first wide fit many bits zero h = refl
unpack_packed nodes vs image first wide fit many bits (suc k) h =
    let w = (node_at nodes k).width in
    let v = get_or vs k (pos 0) in
    let next : suc k ≡ k + 1 = omega arith in
    let one : fits w v ≡ true = fit_at nodes vs k fit (omega arith) (omega arith) in
    let within : field_start nodes k + w ≤ plan_bits nodes = field_inside nodes k (omega arith) in
    let value : field_value nodes image k ≡ v = ap (signed w) (number_is (image_bit image) (field_start nodes k) w (bits_of w v) (bits_small w v (wide k (omega arith)) one) (λ j l.
    bits (field_start nodes k + j)
    ∙ cond-true (ltb (field_start nodes k + j) (8 * plan_bytes nodes)) _ _ (lt-ltb _ (8 * plan_bytes nodes) (omega arith))
    ∙ packed_at nodes vs k j (omega arith) (omega arith) l)) ∙ bits_back w v (wide k (omega arith)) one in
    ap (λ xs. xs ++ (field_value nodes image k ∷ [])) (unpack_packed nodes vs image first wide fit many bits k (omega arith))
    ∙ ap (λ z. take k vs ++ (z ∷ [])) value
    ∙ sym (ap (λ n. take n vs) next ∙ take_more vs k (pos 0) (omega arith))

-- each value beside its node's number
pub fit_each : (all : List Node) (m : ℕ) (nodes : List Node) (vs : List ℤ) → ((k : ℕ) → node_at all (m + k) ≡ node_at nodes k) → list_all (λ (p : ℕ × ℤ). fits (node_at all p.0).width p.1) (zip (range_with_len m (length nodes)) vs) ≡ all_fit nodes vs
fit_each all m [] vs at = refl
fit_each all m (x ∷ xs) [] at = refl
fit_each all m (x ∷ xs) (v ∷ vs) at =
    let here : m + 0 ≡ m = omega arith in
    let first : node_at all m ≡ x = ap (node_at all) (sym here) ∙ at 0 in
    let rest = fit_each all (m + 1) xs vs (λ k. let next : m + 1 + k ≡ m + suc k = omega arith in ap (node_at all) next ∙ at (suc k)) in
    ap (λ y. fits y.width v && list_all (λ (p : ℕ × ℤ). fits (node_at all p.0).width p.1) (zip (range_with_len (m + 1) (length xs)) vs)) first
    ∙ ap (λ b. fits x.width v && b) rest

-- what is known of buffers that are not refused
pub record Long (nodes : List Node) (values image : ℕ) : Type 0 where
  pub values_long : length nodes ≤ values
  pub image_long : plan_bytes nodes ≤ image

pub long_enough : (nodes : List Node) (values image : ℕ) → too_short nodes values image ≡ false → Long nodes values image
long_enough nodes values image h =
    let (a, b) = or_parts (ltb values (length nodes)) (ltb image (plan_bytes nodes)) h in
    record { values_long = ltb-false values (length nodes) a; image_long = ltb-false image (plan_bytes nodes) b }

-- a call that answers `Ok` was not refused
pub not_refused : {A : Type 0} (r : Option Refusal) (a b : A) → answer_unless r a ≡ Ok b → r ≡ None
not_refused None a b h = refl
not_refused (Some e) a b h = absurd (cc)

pub may_pack : (nodes : List Node) (vs : List ℤ) (image : ℕ) → pack_refusal nodes vs image ≡ None → Long nodes (length vs) image × (all_fit nodes vs ≡ true)
may_pack nodes vs image h =
    let (short, rest) = none_applies (too_short nodes (length vs) image) ShortBuffer (cond (all_fit nodes vs) None (Some OutOfRange)) h in
    (long_enough nodes (length vs) image short, none_holds (all_fit nodes vs) OutOfRange rest)

pub may_unpack : (nodes : List Node) (values image : ℕ) → short_refusal nodes values image ≡ None → Long nodes values image
may_unpack nodes values image h =
    long_enough nodes values image (none_applies (too_short nodes values image) ShortBuffer None h).0
