-- Which fields lie in an image, and that fields lie apart.
use Rattle.std.proofs.Common.{◌≡◌, ℕ, zero, suc, ◌+◌, ◌-◌, ◌*◌, ◌^◌, ◌<◌, ◌≤◌, false, cond, ◌&&◌, eqb, ltb, leb, List, [], ◌∷◌, length, ℤ, pos, sym, ap, ◌∙◌, subst, inl, inr, arith}
use lib.Signed.{le_z}
use Rattle.std.proofs.lemmas.Bool.{cases_Bool, cases_lt, cases_eq, cond-true, cond-false, leb-true, leb-false, le-leb, lt-leb, lt-ltb, le-ltb, eq-eqb, ne_eqb, and_from, and_left, and_right}
use Rattle.std.proofs.lemmas.Bool.Decides.{nat_tests}
use Rattle.plans.specs.declared.plan.Node.{Node}
use Rattle.plans.specs.Nodes.{node_at, field_start}
use Rattle.plans.proofs.Starts.{start_first, start_next}
use Rattle.basics.specs.Sets.{has}
use Rattle.stores.specs.Store.{set_value, may_put}
use Rattle.stores.proofs.Stores.{same_store}
use Rattle.image_model.specs.Image.{image_bit, number, signed, lowest, highest, within_field, with_field}
use Rattle.image_model.specs.Fields.{Lies, leading, fits, field_value, or_zero, image_store}
use Rattle.image_model.specs.ImageLaws.{leading_few, or_zero_past}
use Rattle.image_model.proofs.Numbers.{number_is, number_same}

leading_at : (nodes : List Node) (room n : ℕ) → n < length nodes → ltb n (leading nodes room) ≡ leb (field_start nodes (suc n)) room
leading_at [] room n h = absurd (omega arith)
leading_at (x ∷ xs) room zero h = elim (cases_Bool (leb x.width room)) [
  | inl t ↦
      let l = leb-true x.width room t in
      ap (ltb 0) (cond-true (leb x.width room) (suc (leading xs (room - x.width))) 0 t) ∙ lt-ltb 0 (suc (leading xs (room - x.width))) (omega arith) ∙ sym (le-leb (x.width + field_start xs 0) room (omega (arith, start_first xs)))
  | inr f ↦
      let l = leb-false x.width room f in
      ap (ltb 0) (cond-false (leb x.width room) (suc (leading xs (room - x.width))) 0 f) ∙ le-ltb 0 0 (omega arith) ∙ sym (lt-leb (x.width + field_start xs 0) room (omega arith))
]
leading_at (x ∷ xs) room (suc n) h = elim (cases_Bool (leb x.width room)) [
  | inl t ↦
      let l = leb-true x.width room t in
      let e = leading_at xs (room - x.width) n (omega arith) in
      ap (ltb (suc n)) (cond-true (leb x.width room) (suc (leading xs (room - x.width))) 0 t) ∙ grind (arith, nat_tests)
  | inr f ↦
      let l = leb-false x.width room f in
      ap (ltb (suc n)) (cond-false (leb x.width room) (suc (leading xs (room - x.width))) 0 f) ∙ le-ltb (suc n) 0 (omega arith) ∙ sym (lt-leb (x.width + field_start xs (suc n)) room (omega arith))
]

-- a field is one of the leading ones where it ends in time
pub leading_field : (nodes : List Node) (room n : ℕ) → n < length nodes → ltb n (leading nodes room) ≡ leb (field_start nodes n + (node_at nodes n).width) room
leading_field nodes room n h =
    let next : suc n ≡ n + 1 = omega arith in
    leading_at nodes room n h ∙ ap (λ m. leb m room) (ap (field_start nodes) next ∙ start_next nodes n h)

pub leading_past : (nodes : List Node) (room n : ℕ) → length nodes ≤ n → ltb n (leading nodes room) ≡ false
leading_past nodes room n h = le-ltb n (leading nodes room) (omega (arith, leading_few nodes room))

start_rise : (nodes : List Node) (m k : ℕ) → m + k ≤ length nodes → field_start nodes m ≤ field_start nodes (m + k)
start_rise nodes m zero h = let e : m + 0 ≡ m = omega arith in subst (λ n. field_start nodes m ≤ field_start nodes n) (sym e) (omega arith)
start_rise nodes m (suc k) h =
    let e : m + suc k ≡ m + k + 1 = omega arith in
    subst (λ n. field_start nodes m ≤ field_start nodes n) (sym e) (omega (arith, start_rise nodes m k (omega arith), start_next nodes (m + k) (omega arith)))

-- every field ends by the end of them all
pub field_inside : (nodes : List Node) (n : ℕ) → n < length nodes → field_start nodes n + (node_at nodes n).width ≤ field_start nodes (length nodes)
field_inside nodes n h =
    let e : n + 1 + (length nodes - (n + 1)) ≡ length nodes = omega arith in
    let rise = start_rise nodes (n + 1) (length nodes - (n + 1)) (omega arith) in
    let at : field_start nodes (n + 1 + (length nodes - (n + 1))) ≡ field_start nodes (length nodes) = ap (field_start nodes) e in
    omega (arith, start_next nodes n h)

-- a lower field ends before a higher one starts
pub fields_apart : (nodes : List Node) (m n : ℕ) → m < n → n < length nodes → field_start nodes m + (node_at nodes m).width ≤ field_start nodes n
fields_apart nodes m n l h =
    let e : m + 1 + (n - (m + 1)) ≡ n = omega arith in
    let rise = start_rise nodes (m + 1) (n - (m + 1)) (omega arith) in
    let at : field_start nodes (m + 1 + (n - (m + 1))) ≡ field_start nodes n = ap (field_start nodes) e in
    omega (arith, start_next nodes m (omega arith))

-- a put into the field of node n changes the value of n alone
pub put_field : (nodes : List Node) (image after : List ℕ) (n start width u : ℕ) (v : ℤ) → ((k : ℕ) → k < length nodes → 2 ≤ (node_at nodes k).width) → Lies nodes (8 * length image) n start width → length after ≡ length image → u < 2 ^ width → signed width u ≡ v → ((i : ℕ) → image_bit after i ≡ with_field (image_bit image) start width u i) → image_store nodes after ≡ set_value (image_store nodes image) n v
put_field nodes image after n start width u v wide lies long small back bits = same_store _ _ counts values
    (λ k. ap (λ c. or_zero c (λ m. lowest (node_at nodes m).width) k) counts)
    (λ k. ap (λ c. or_zero c (λ m. highest (node_at nodes m).width) k) counts)
  where
    counts : leading nodes (8 * length after) ≡ leading nodes (8 * length image)
    counts = ap (λ l. leading nodes (8 * l)) long

    back_off : (j : ℕ) → start + j - start ≡ j
    back_off j = omega arith

    -- the field itself
    here : field_value nodes after n ≡ v
    here =
        ap (λ w. signed w (number (image_bit after) (field_start nodes n) w)) (sym lies.spans)
        ∙ ap (λ s. signed width (number (image_bit after) s width)) (sym lies.starts)
        ∙ ap (signed width) (number_is (image_bit after) start width u small (λ j l.
        bits (start + j)
        ∙ cond-true (within_field start width (start + j)) (has u (width - 1 - (start + j - start))) (image_bit image (start + j)) (and_from _ _ (le-leb start (start + j) (omega arith)) (lt-ltb (start + j) (start + width) (omega arith)))
        ∙ ap (λ p. has u (width - 1 - p)) (back_off j)))
        ∙ back

    -- the fields before and after it
    apart : (k j : ℕ) → k < length nodes → (k ≡ n → ⊥) → j < (node_at nodes k).width → within_field start width (field_start nodes k + j) ≡ false
    apart k j l ne h = elim (cases_lt k n) [
      | inl under ↦ and_left _ _ (lt-leb start (field_start nodes k + j) (omega (arith, fields_apart nodes k n under lies.node, lies.starts)))
      | inr over ↦ and_right _ _ (le-ltb (field_start nodes k + j) (start + width) (omega (arith, fields_apart nodes n k (omega arith) l, lies.starts, lies.spans)))
    ]

    elsewhere : (k : ℕ) → k < length nodes → (k ≡ n → ⊥) → field_value nodes after k ≡ field_value nodes image k
    elsewhere k l ne = ap (signed (node_at nodes k).width) (number_same (image_bit after) (image_bit image) (field_start nodes k) (node_at nodes k).width (λ j h.
        bits (field_start nodes k + j) ∙ cond-false (within_field start width (field_start nodes k + j)) _ _ (apart k j l ne h)))

    values : (k : ℕ) → or_zero (leading nodes (8 * length after)) (field_value nodes after) k ≡ cond (eqb k n) v (or_zero (leading nodes (8 * length image)) (field_value nodes image) k)
    values k = ap (λ c. or_zero c (field_value nodes after) k) counts ∙ elim (cases_eq k n) [
      | inl q ↦
          cond-true (ltb k (leading nodes (8 * length image))) _ _ (ap (λ m. ltb m (leading nodes (8 * length image))) q ∙ lies.leads)
          ∙ ap (field_value nodes after) q ∙ here ∙ sym (cond-true (eqb k n) v _ (eq-eqb k n q))
      | inr ne ↦ elim (cases_lt k (leading nodes (8 * length image))) [
        | inl l ↦
            ap (λ z. cond (ltb k (leading nodes (8 * length image))) z (pos 0)) (elsewhere k (omega (arith, leading_few nodes (8 * length image))) ne)
            ∙ sym (cond-false (eqb k n) v _ (ne_eqb k n ne))
        | inr past ↦
            or_zero_past (leading nodes (8 * length image)) (field_value nodes after) k past
            ∙ sym (cond-false (eqb k n) v _ (ne_eqb k n ne) ∙ or_zero_past (leading nodes (8 * length image)) (field_value nodes image) k past)
      ]
    ]

-- a value may be put where it fits the field
pub takes_field : (nodes : List Node) (image : List ℕ) (n start width : ℕ) (v : ℤ) → Lies nodes (8 * length image) n start width → may_put (image_store nodes image) n v ≡ fits width v
takes_field nodes image n start width v lies =
    let low : or_zero count (λ m. lowest (node_at nodes m).width) n ≡ lowest width = cond-true (ltb n count) _ _ lies.leads ∙ ap lowest (sym lies.spans) in
    let high : or_zero count (λ m. highest (node_at nodes m).width) n ≡ highest width = cond-true (ltb n count) _ _ lies.leads ∙ ap highest (sym lies.spans) in
    ap (λ b. b && (le_z (or_zero count (λ m. lowest (node_at nodes m).width) n) v && le_z v (or_zero count (λ m. highest (node_at nodes m).width) n))) lies.leads
    ∙ ap (λ z. le_z z v && le_z v (or_zero count (λ m. highest (node_at nodes m).width) n)) low
    ∙ ap (λ z. le_z (lowest width) v && le_z v z) high
  where
    count : ℕ
    count = leading nodes (8 * length image)
