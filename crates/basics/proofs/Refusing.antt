-- What is known where no refusal applies.
use Rattle.std.proofs.Common.{◌≡◌, ℕ, Bool, true, false, cond, Some, None, Option, refl, arith}

pub none_applies : {A : Type 0} (b : Bool) (e : A) (rest : Option A) → cond b (Some e) rest ≡ None → (b ≡ false) × (rest ≡ None)
none_applies true e rest h = let z : ◌≡◌ {A = ℕ} 0 1 = cc in absurd (omega arith)
none_applies false e rest h = (refl, h)

pub none_holds : {A : Type 0} (b : Bool) (e : A) → cond b None (Some e) ≡ None → b ≡ true
none_holds true e h = refl
none_holds false e h = let z : ◌≡◌ {A = ℕ} 0 1 = cc in absurd (omega arith)
