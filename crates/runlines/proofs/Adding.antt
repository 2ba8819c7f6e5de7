-- How many bytes a number has at most.
use Rattle.std.proofs.Common.{◌≤◌, length, ℤ, pos, negsuc, arith}
use lib.Signed.{mag}
use Rattle.std.proofs.lemmas.Fmt.{length_signed_le}
use Rattle.std.proofs.lemmas.Int.{ints}
use Rattle.std.specs.Fmt.{signed_decimal}
use Rattle.stores.specs.Store.{Small}

small_mag : (z : ℤ) → Small z → mag z ≤ 32767
small_mag (pos n) h = omega (arith, ints, h.1)
small_mag (negsuc n) h = omega (arith, ints, h.0)

-- a number of 16 bits has at most 6 bytes
pub brief_small : (z : ℤ) → Small z → length (signed_decimal z) ≤ 6
brief_small z h = let m = small_mag z h in length_signed_le 5 z (omega arith) (omega arith)
