-- The fields of a plan's nodes in an image: in rising node number, each as wide as its node, without gaps.
use Rattle.std.specs.Prelude.{◌≡◌, ℕ, zero, suc, ◌+◌, ◌-◌, ◌*◌, ◌/◌, ◌<◌, ◌≤◌, Bool, true, false, cond, ◌&&◌, ◌||◌, List, [], ◌∷◌, ◌++◌, length, ℤ, pos, Some, None, Option, int_le, nat_le, nat_lt}
use Rattle.basics.specs.declared.refusal.Refusal.{Refusal}
use Rattle.basics.specs.declared.refusal.Refusal.TheVariants.{ShortBuffer, OutOfRange}
use Rattle.basics.specs.Sets.{has}
use Rattle.plans.specs.declared.plan.Node.{Node}
use Rattle.plans.specs.Nodes.{node_at, field_start}
use Rattle.stores.specs.Store.{Store}
use Rattle.image_model.specs.Image.{image_bit, number, bytes, signed, bits_of, lowest, highest, with_field}

-- the bits that all fields take, and the bytes that hold them
abbrev pub plan_bits : List Node → ℕ
plan_bits nodes = field_start nodes (length nodes)

abbrev pub plan_bytes : List Node → ℕ
plan_bytes nodes = (plan_bits nodes + 7) / 8

-- the value in the field of node n
abbrev pub field_value : List Node → List ℕ → ℕ → ℤ
field_value nodes image n =
    signed (node_at nodes n).width (number (image_bit image) (field_start nodes n) (node_at nodes n).width)

-- the values in the first k fields
abbrev pub unpacked : List Node → List ℕ → ℕ → List ℤ
unpacked nodes image zero = []
unpacked nodes image (suc k) = unpacked nodes image k ++ (field_value nodes image k ∷ [])

-- the bits of the values, field after field; all further bits are 0
abbrev pub packed_bit : List Node → List ℤ → ℕ → Bool
packed_bit [] vs i = false
packed_bit (x ∷ xs) [] i = false
packed_bit (x ∷ xs) (v ∷ vs) i =
    cond (nat_lt i x.width) (has (bits_of x.width v) (x.width - 1 - i)) (packed_bit xs vs (i - x.width))

-- the bytes of the values' image
abbrev pub packed : List Node → List ℤ → List ℕ
packed nodes vs = bytes (packed_bit nodes vs) (plan_bytes nodes)

-- the bytes that hold the fields, with the spare bits of the last one cleared
abbrev pub spare_cleared : List Node → List ℕ → List ℕ
spare_cleared nodes image = bytes (λ i. nat_lt i (plan_bits nodes) && image_bit image i) (plan_bytes nodes)

-- v lies in the range of w bits
abbrev pub fits : ℕ → ℤ → Bool
fits w v = int_le (lowest w) v && int_le v (highest w)

-- each value lies in the range of its node's field
abbrev pub all_fit : List Node → List ℤ → Bool
all_fit [] vs = true
all_fit (x ∷ xs) [] = true
all_fit (x ∷ xs) (v ∷ vs) = fits x.width v && all_fit xs vs

-- how many leading fields lie wholly in this many bits
abbrev pub leading : List Node → ℕ → ℕ
leading [] room = 0
leading (x ∷ xs) room = cond (nat_le x.width room) (suc (leading xs (room - x.width))) 0

-- where there is a field, what it has, else 0
abbrev pub or_zero : ℕ → (ℕ → ℤ) → ℕ → ℤ
or_zero count f n = cond (nat_lt n count) (f n) (pos 0)

-- an image as a store: the nodes whose fields lie wholly in it
abbrev pub image_store : List Node → List ℕ → Store
image_store nodes image =
    let count = leading nodes (8 * length image) in
    record {
      count = count;
      values = or_zero count (field_value nodes image);
      low = or_zero count (λ n. lowest (node_at nodes n).width);
      high = or_zero count (λ n. highest (node_at nodes n).width);
    }

-- the field of node n, of `width` bits from bit `start` on, lies wholly in this many bits
pub record Lies (nodes : List Node) (room n start width : ℕ) : Type 0 where
  pub leads : nat_lt n (leading nodes room) ≡ true
  pub node : n < length nodes
  pub starts : start ≡ field_start nodes n
  pub spans : width ≡ (node_at nodes n).width
  pub wide : 2 ≤ width
  pub slim : width ≤ 16
  pub near : start < 65536
  pub inside : start + width ≤ room

-- too few values, or too few bytes
abbrev pub too_short : List Node → ℕ → ℕ → Bool
too_short nodes values image = nat_lt values (length nodes) || nat_lt image (plan_bytes nodes)

-- why buffers of these lengths are refused
abbrev pub short_refusal : List Node → ℕ → ℕ → Option Refusal
short_refusal nodes values image = cond (too_short nodes values image) (Some ShortBuffer) None

-- why packing is refused, in the order of looking
abbrev pub pack_refusal : List Node → List ℤ → ℕ → Option Refusal
pack_refusal nodes values image =
    cond (too_short nodes (length values) image) (Some ShortBuffer)
    (cond (all_fit nodes values) None (Some OutOfRange))

-- bit i of an image after v was put at node n: where it was taken, the bits of the field are v's, and all others stay
abbrev pub put_bit : List Node → List ℕ → ℕ → ℤ → Bool → ℕ → Bool
put_bit nodes image n v taken i =
    cond taken
    (with_field (image_bit image) (field_start nodes n) (node_at nodes n).width (bits_of (node_at nodes n).width v) i)
    (image_bit image i)
