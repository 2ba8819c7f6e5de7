-- Edge cases of a session's calls.
use Rattle.std.specs.Prelude.{◌≡◌, [], ◌∷◌, pos, negsuc, Some, None}
use Rattle.basics.specs.declared.refusal.Refusal.TheVariants.{AmountOutOfBounds}
use Rattle.stores.specs.Store.{Store}
use Rattle.image_model.specs.Fields.{image_store}
use Rattle.model.specs.Calls.{adjust, first_refusal}
use Rattle.model.specs.Checks.{operation_checks}
use Rattle.model.specs.Step.{performed}

-- one node of 16 bits, with the value 32,767
abbrev full : Store
full = image_store (record { width = 16; parents = record { mask = 0 } } ∷ []) (0x7F ∷ 0xFF ∷ [])

-- adjusted by −65,535 it is −32,768; an adjustment by −65,536 is out of bounds
abbrev pub WidestAdjustment : Type 0
WidestAdjustment =
    (full.values 0 ≡ pos 32767)
    × (first_refusal (operation_checks full 0 (adjust (negsuc 65534))) ≡ None)
    × ((performed full 0 (adjust (negsuc 65534))).values 0 ≡ negsuc 32767)
    × (first_refusal (operation_checks full 0 (adjust (negsuc 65535))) ≡ Some AmountOutOfBounds)
