-- Edge cases of the packed image.
use Rattle.std.specs.Prelude.{◌≡◌, ℕ, true, [], ◌∷◌, pos, negsuc, ◌+ℤ◌, Some, None}
use Rattle.basics.specs.declared.refusal.Refusal.TheVariants.{OutOfRange}
use Rattle.plans.specs.declared.plan.Node.{Node}
use Rattle.image_model.specs.Fields.{packed, unpacked, fits, pack_refusal}

-- a node of this width, with these parents
abbrev node : ℕ → ℕ → Node
node width parents = record { width = width; parents = record { mask = parents } }

-- widths 3 and 7 with the values −1 and 5 give the bytes E1 40, and back
abbrev pub ImageOfTwo : Type 0
ImageOfTwo =
    (packed (node 3 0 ∷ node 7 1 ∷ []) (negsuc 0 ∷ pos 5 ∷ []) ≡ 0xE1 ∷ 0x40 ∷ [])
    × (unpacked (node 3 0 ∷ node 7 1 ∷ []) (0xE1 ∷ 0x40 ∷ []) 2 ≡ negsuc 0 ∷ pos 5 ∷ [])

-- at width 2, −2 fits and 2 is out of range
abbrev pub Narrow : Type 0
Narrow =
    (pack_refusal (node 2 0 ∷ []) (negsuc 1 ∷ []) 1 ≡ None)
    × (pack_refusal (node 2 0 ∷ []) (pos 2 ∷ []) 1 ≡ Some OutOfRange)

-- at width 16, 32,767 lowered by 65,535 is −32,768 and fits
abbrev pub Wide : Type 0
Wide = (pos 32767 +ℤ negsuc 65534 ≡ negsuc 32767) × (fits 16 (pos 32767 +ℤ negsuc 65534) ≡ true)
