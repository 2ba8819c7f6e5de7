-- An image is a lawful store: proofs only, nothing here has to be believed.
use Rattle.std.specs.Prelude.{◌≡◌, ℕ, zero, suc, ◌+◌, ◌-◌, ◌*◌, ◌^◌, ◌<◌, ◌≤◌, Bool, true, false, cond, List, [], ◌∷◌, length, ℤ, pos, ◌-ℤ◌, nat_le, nat_lt, slice_index_or}
use Rattle.std.proofs.Common.{sym, ◌∙◌, ap, subst, inl, inr, pow-suc, arith, pow_mono}
use Rattle.std.specs.Int.Signed.{le_z_yes}
use Rattle.std.proofs.lemmas.Int.{ints}
use Rattle.std.proofs.lemmas.List.{length-map}
use Rattle.std.proofs.Math.ListN.{get_or-map}
use Rattle.std.proofs.lemmas.Bool.{cases_Bool, cases_lt, cond-true, cond-false, cond_both, ltb-true, le-ltb, lt-ltb}
use Rattle.plans.specs.declared.plan.Node.{Node}
use Rattle.plans.specs.declared.plan.Plan.{Plan}
use Rattle.plans.specs.Meaning.{nodes_of}
use Rattle.plans.specs.Nodes.{node_at, field_start}
use Rattle.plans.specs.Placed.{node_of, not_placed}
use Rattle.stores.specs.Store.{Small, Lawful}
use Rattle.image_model.specs.Image.{image_bit, number, signed, lowest, highest}
use Rattle.image_model.specs.Fields.{field_value, leading, or_zero, image_store}

pub digit_small : (b : Bool) → cond b 1 0 < 2
digit_small true = omega arith
digit_small false = omega arith

pub number_lt : (row : ℕ → Bool) (at w : ℕ) → number row at w < 2 ^ w
number_lt row at zero = omega arith
number_lt row at (suc w) = omega (arith, number_lt row at w, pow-suc 2 w, digit_small (row (at + w)))

pub leading_few : (nodes : List Node) (room : ℕ) → leading nodes room ≤ length nodes
leading_few [] room = omega arith
leading_few (x ∷ xs) room = elim (cases_Bool (nat_le x.width room)) [
  | inl t ↦ rw (cond-true (nat_le x.width room) (suc (leading xs (room - x.width))) 0 t) (omega (arith, leading_few xs (room - x.width)))
  | inr f ↦ rw (cond-false (nat_le x.width room) (suc (leading xs (room - x.width))) 0 f) (omega arith)
]

-- the weight of the top bit of at most 16
half : (w : ℕ) → w ≤ 16 → 2 ^ (w - 1) ≤ 32768
half w h = let l : w - 1 ≤ 15 = omega arith in let p : 2 ^ (w - 1) ≤ 2 ^ 15 = pow_mono l in p

-- the top bit has half the weight of all
pub double : (w : ℕ) → 2 ≤ w → 2 ^ w ≡ 2 * 2 ^ (w - 1)
double w h = let e : w ≡ suc (w - 1) = omega arith in ap (λ n. 2 ^ n) e ∙ omega (arith, pow-suc 2 (w - 1))

signed_small : (w u : ℕ) → 2 ≤ w → w ≤ 16 → u < 2 ^ w → Small (signed w u)
signed_small w u h s l =
    let top = half w s in
    let all = double w h in
    elim (cases_lt u (2 ^ (w - 1))) [
      | inl low ↦ subst Small (sym (cond-true (nat_lt u (2 ^ (w - 1))) (pos u) (pos u -ℤ pos (2 ^ w)) (lt-ltb u (2 ^ (w - 1)) low))) (omega (arith, ints), omega (arith, ints))
      | inr high ↦ subst Small (sym (cond-false (nat_lt u (2 ^ (w - 1))) (pos u) (pos u -ℤ pos (2 ^ w)) (le-ltb u (2 ^ (w - 1)) high))) (omega (arith, ints), omega (arith, ints))
    ]

lowest_small : (w : ℕ) → w ≤ 16 → Small (lowest w)
lowest_small w s = let top = half w s in (omega (arith, ints), omega (arith, ints))

highest_small : (w : ℕ) → w ≤ 16 → Small (highest w)
highest_small w s = let top = half w s in (omega (arith, ints), omega (arith, ints))

zero_small : Small (pos 0)
zero_small = (le_z_yes tt, le_z_yes tt)

-- what holds of the width of each node that a plan keeps holds of each node's width
pub plan_width : (P : ℕ → Type 0) (p : Plan) → ((n : ℕ) → n < length p.nodes.items → P (slice_index_or p.nodes.items n not_placed).width) → (n : ℕ) → n < length (nodes_of p) → P (node_at (nodes_of p) n).width
plan_width P p h n l =
    let same : (node_at (nodes_of p) n).width ≡ (slice_index_or p.nodes.items n not_placed).width = ap (λ x. x.width) (get_or-map node_of p.nodes.items n not_placed) in
    let below : n < length p.nodes.items = omega (arith, length-map p.nodes.items node_of) in
    subst P (sym same) (h n below)

pub plan_wide : (p : Plan) (n : ℕ) → n < length (nodes_of p) → 2 ≤ (node_at (nodes_of p) n).width
plan_wide p = p.wide

pub plan_slim : (p : Plan) (n : ℕ) → n < length (nodes_of p) → (node_at (nodes_of p) n).width ≤ 16
plan_slim p n l = p.slim n

or_zero_small : (count : ℕ) (f : ℕ → ℤ) → ((n : ℕ) → n < count → Small (f n)) → (n : ℕ) → Small (or_zero count f n)
or_zero_small count f small n = cond_both (nat_lt n count) (f n) (pos 0) Small (λ t. small n (ltb-true n count t)) (λ _. zero_small)

pub or_zero_past : (count : ℕ) (f : ℕ → ℤ) (n : ℕ) → count ≤ n → or_zero count f n ≡ pos 0
or_zero_past count f n h = cond-false (nat_lt n count) (f n) (pos 0) (le-ltb n count h)

pub image_lawful : (p : Plan) (image : List ℕ) → Lawful (image_store (nodes_of p) image)
image_lawful p image = record {
  few = omega (arith, few, p.few);
  small_value = or_zero_small count (field_value (nodes_of p) image) (λ n l. let below : n < length (nodes_of p) = omega (arith, few) in signed_small (node_at (nodes_of p) n).width _ (plan_wide p n below) (plan_slim p n below) (number_lt (image_bit image) (field_start (nodes_of p) n) (node_at (nodes_of p) n).width));
  small_low = or_zero_small count (λ n. lowest (node_at (nodes_of p) n).width) (λ n l. lowest_small _ (plan_slim p n (omega (arith, few))));
  small_high = or_zero_small count (λ n. highest (node_at (nodes_of p) n).width) (λ n l. highest_small _ (plan_slim p n (omega (arith, few))));
  no_value = or_zero_past count (field_value (nodes_of p) image);
  no_low = or_zero_past count (λ n. lowest (node_at (nodes_of p) n).width);
  no_high = or_zero_past count (λ n. highest (node_at (nodes_of p) n).width);
}
  where
    count : ℕ
    count = leading (nodes_of p) (8 * length image)

    few : leading (nodes_of p) (8 * length image) ≤ length (nodes_of p)
    few = leading_few (nodes_of p) (8 * length image)
