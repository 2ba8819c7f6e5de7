-- Numbers and lists of numbers, piece by piece.
use Rattle.std.proofs.Common.{◌≡◌, ℕ, ◌<◌, true, false, List, [], ◌∷◌, length, drop, ℤ, pos, negsuc, nat_abs, ◌≤ℤ◌, Some, None, Option, sym, refl, ap, ap₂, arith, w32, to_z, of_z}
use lib.Signed.{lt_z}
use Rattle.std.proofs.lemmas.Int.{ints}
use Rattle.runtext_model.specs.Lines.{and_then, unsigned}
use Rattle.runtext_model.specs.Words.{slash}
use Rattle.runtext.specs.declared.part.Part.{Part}
use Rattle.runtext.specs.declared.word.Word.TheVariants.{Letter, Number, Slash}
use Rattle.runtext.specs.declared.word.Word as program
use Rattle.runtext.specs.declared.numbers.Numbers.{Numbers}
use Rattle.runtext.specs.Listing.{number_in, plain_in, first_number, first_plain, front, behind, listed, above}
use Rattle.runtext.specs.Meaning.{means}
use Rattle.runtext.specs.Numerals.{Small}

-- a number without a minus
pub plain_is : (ps : List (List ℕ)) (z : ℤ) → first_number ps ≡ Some z → first_plain ps ≡ unsigned z
unfolding number_in plain_in
plain_is [] z e = absurd (cc)
plain_is (p ∷ ps) z e = ap (λ o. and_then o unsigned) e

pub no_plain : (ps : List (List ℕ)) → first_number ps ≡ None → first_plain ps ≡ None
unfolding number_in plain_in
no_plain [] e = refl
no_plain (p ∷ ps) e = ap (λ o. and_then o unsigned) e

pub below_zero : (z : ℤ) → lt_z z (pos 0) ≡ true → unsigned z ≡ None
below_zero (pos n) t = absurd (omega (arith, ints))
below_zero (negsuc n) t = refl

-- the list goes on, or ends
pub front_more : (p : List ℕ) (ps : List (List ℕ)) (n : ℕ) → plain_in p ≡ Some n → (front (p ∷ ps) ≡ n ∷ front ps) × (behind (p ∷ ps) ≡ behind ps)
front_more p ps n e = (
  ap (λ (o : Option ℕ). elim o as (λ _. List ℕ) [ None ↦ [] | Some m ↦ m ∷ front ps ]) e,
  ap (λ (o : Option ℕ). elim o as (λ _. List (List ℕ)) [ None ↦ p ∷ ps | Some m ↦ behind ps ]) e,
)

pub front_first : (ps : List (List ℕ)) (n : ℕ) → first_plain ps ≡ Some n → (front ps ≡ n ∷ front (drop 1 ps)) × (behind ps ≡ behind (drop 1 ps))
front_first [] n e = absurd (cc)
front_first (p ∷ ps) n e = front_more p ps n e

pub front_none : (ps : List (List ℕ)) → first_plain ps ≡ None → (front ps ≡ []) × (behind ps ≡ ps)
front_none [] e = (refl, refl)
front_none (p ∷ ps) e = (
  ap (λ (o : Option ℕ). elim o as (λ _. List ℕ) [ None ↦ [] | Some m ↦ m ∷ front ps ]) e,
  ap (λ (o : Option ℕ). elim o as (λ _. List (List ℕ)) [ None ↦ p ∷ ps | Some m ↦ behind ps ]) e,
)

pub from_zero : (z : ℤ) → lt_z z (pos 0) ≡ false → z ≤ℤ pos 99999 → (unsigned z ≡ Some (nat_abs z)) × (nat_abs z < 100000)
from_zero (pos n) t h = (refl, omega (arith, ints))
from_zero (negsuc n) t h = absurd (omega (arith, ints))

-- a number of five digits lies in a word of 32 bits
pub same_word : (z : ℤ) → Small (Some z) → to_z w32 (of_z w32 z) ≡ z
same_word z (low, high) = omega (arith, ints)

-- a word that is no slash
pub no_slash : (w : program.Word) → ((p : Part) → w ≡ Slash p → ⊥) → Some (means w) ≡ Some slash → ⊥
no_slash (Letter p) f e = let z : ◌≡◌ {A = ℕ} 0 1 = cc in omega arith
no_slash (Number p) f e = let z : ◌≡◌ {A = ℕ} 0 1 = cc in omega arith
no_slash (Slash p) f e = f p refl

-- how many numbers a list has, and what they are below
pub counted : {X : Type 0} (l : Numbers) → (f : ℕ → ℕ → X) → f (length (listed l.from)) (above 0 (listed l.from)) ≡ f l.count l.limit
counted l f = ap₂ f (sym l.counted) (sym l.limited)
