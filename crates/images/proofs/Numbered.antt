-- Values with their numbers from 0 on: a `zip` of a range and a slice.
use Rattle.std.proofs.Common.{◌≡◌, ℕ, ◌<◌, min, List, length, get_or, ℤ, pos, Some, None, Option, ap, ◌∙◌, arith}
use denote.Ref.{Bor}
use Rattle.std.proofs.iter.Yields.{fronts, nat_range_steps}
use Rattle.std.proofs.lemmas.Iterator.{YieldsList, YieldsList-from_range, YieldsList-from_slice, YieldsList-from_zip, zips}
use Rattle.std.proofs.lemmas.Iterator.Consumers.{YieldsList-turn, YieldsList-end}
use Rattle.std.proofs.lemmas.List.{get_or_default}
use Rattle.std.proofs.lemmas.List.FromFn.{get_or-range_with_len, length-range_with_len}
use Rattle.std.proofs.lemmas.Slice.Zip.{length-zip, get_or-zip}
use Rattle.std.specs.Iterator.{Yields}
use Rattle.std.specs.Iterator.Adapters.{zip_first, zip_second}
use Rattle.std.specs.List.{range_with_len, zip}
use Rattle.std.specs.Slice.Iter.{iter_rest}
use Rattle.std.specs.declared.iter.Zip.{Zip}
use Rattle.std.specs.declared.ops.Range.{Range}
use Rattle.std.specs.declared.slice.Iter.{Iter}

-- which number and which value turn i of a loop has
pub record Turn (count : ℕ) (vs : List ℤ) (i : ℕ) (p : ℕ × Bor ℤ) : Type 0 where
  pub below : i < count
  pub within : i < length vs
  pub number : p.0 ≡ i
  pub value : p.1.now ≡ get_or vs i (pos 0)

module _ (count : ℕ) (vs : List ℤ) (s : Zip (Range ℕ) (Iter ℤ)) (first : zip_first s ≡ record { start = 0; end = count }) (second : iter_rest (zip_second s) ≡ vs) where
  pub numbered : YieldsList {B = ℕ × ℤ} (zips nat_range_steps fronts) (λ p. (p.0, p.1.now)) s (zip (range_with_len 0 count) vs)
  numbered = YieldsList-from_zip (YieldsList-from_range 0 count count first (omega arith)) (YieldsList-from_slice vs second)

  module _ (xs : List (ℕ × Bor ℤ)) (t u : Zip (Range ℕ) (Iter ℤ)) (r : Option (ℕ × Bor ℤ)) (y : Yields (zips nat_range_steps fronts) s xs t) where
    long : length (zip (range_with_len 0 count) vs) ≡ min count (length vs)
    long = length-zip (range_with_len 0 count) vs ∙ ap (λ n. min n (length vs)) (length-range_with_len 0 count)

    pub numbered_turn : (p : ℕ × Bor ℤ) → r ≡ Some p → zips nat_range_steps fronts t r u → Turn count vs (length xs) p
    numbered_turn p is h =
        let turn = YieldsList-turn numbered xs t y r u p is h in
        let below : length xs < count = omega (arith, turn.0, long) in
        let within : length xs < length vs = omega (arith, turn.0, long) in
        let few : length xs < length (range_with_len 0 count) = omega (arith, below, length-range_with_len 0 count) in
        let pair = turn.1 ∙ get_or-zip (range_with_len 0 count) vs (length xs) (p.0, p.1.now) few within in
        record {
          below = below;
          within = within;
          number = ap (λ (q : ℕ × ℤ). q.0) pair ∙ get_or-range_with_len 0 count (length xs) p.0 below ∙ omega arith;
          value = ap (λ (q : ℕ × ℤ). q.1) pair ∙ get_or_default vs (length xs) p.1.now (pos 0) within;
        }

    pub numbered_end : r ≡ None → zips nat_range_steps fronts t r u → length xs ≡ min count (length vs)
    numbered_end is h = (YieldsList-end numbered xs t y r u is h).1 ∙ long
