-- A text cut into its pieces, one after the other.
use Rattle.std.proofs.Common.{◌≡◌, ℕ, suc, ◌+◌, ◌<◌, ◌≤◌, Bool, true, false, cond, not, eqb, List, [], ◌∷◌, length, take, drop, Some, None, Option, sym, refl, ap, ◌∙◌, inl, inr, arith, length-drop}
use Rattle.std.specs.List.{prefix_len, position}
use Rattle.std.specs.Option.{is_some, unwrap_or}
use mathlib.Core.Path.{subst⁻¹, ap₂}
use Rattle.std.proofs.lemmas.Bool.{cases_lt, lt-ltb, le-ltb}
use Rattle.std.proofs.lemmas.List.{take_all, length-take-le}
use Rattle.runtext_model.specs.Accepting.{is_empty}
use Rattle.runtext_model.specs.Pieces.{onto, pieces}
use Rattle.runtext.specs.declared.piece.Piece.{Piece}
use Rattle.runtext.specs.declared.piece.Rest.{Rest}
use Rattle.runtext.specs.Left.{pieces_of, pieces_left, size, size_of, BeginsAt, Skips}

-- how many bytes stand before the first byte c
abbrev piece_length : ℕ → List ℕ → ℕ
piece_length c xs = prefix_len (λ b. not (eqb b c)) xs

-- cut at the first byte c, or not at all
abbrev pub CutAt : ℕ → List ℕ → Option ℕ → Type 0
CutAt c xs None = pieces c xs ≡ xs ∷ []
CutAt c xs (Some i) = (i < length xs) × (pieces c xs ≡ take i xs ∷ pieces c (drop (i + 1) xs))

-- the first piece, and those after it
module _ (c : ℕ) where
  abbrev Cut : List ℕ → ℕ → Type 0
  Cut xs n = (n < length xs → pieces c xs ≡ take n xs ∷ pieces c (drop (n + 1) xs)) × (length xs ≤ n → pieces c xs ≡ xs ∷ [])

  cut_step : (x : ℕ) (xs : List ℕ) (b : Bool) → eqb x c ≡ b → Cut xs (piece_length c xs) → Cut (x ∷ xs) (piece_length c (x ∷ xs))
  cut_step x xs true e (more, last) =
      let n : piece_length c (x ∷ xs) ≡ 0 = ap (λ b. cond (not b) (1 + piece_length c xs) 0) e in
      let p : pieces c (x ∷ xs) ≡ [] ∷ pieces c xs = ap (λ b. cond b ([] ∷ pieces c xs) (onto x (pieces c xs))) e in
      (λ l. p ∙ sym (ap (λ m. take m (x ∷ xs) ∷ pieces c (drop (m + 1) (x ∷ xs))) n), λ l. absurd (omega (arith, n)))
  cut_step x xs false e (more, last) =
      let m = piece_length c xs in
      let n : piece_length c (x ∷ xs) ≡ suc m = ap (λ b. cond (not b) (1 + piece_length c xs) 0) e ∙ omega arith in
      let p : pieces c (x ∷ xs) ≡ onto x (pieces c xs) = ap (λ b. cond b ([] ∷ pieces c xs) (onto x (pieces c xs))) e in
      let q : suc m + 1 ≡ suc (m + 1) = omega arith in (
        λ l. p ∙ ap (onto x) (more (omega (arith, n)))
            ∙ sym (ap (λ k. take k (x ∷ xs) ∷ pieces c (drop (k + 1) (x ∷ xs))) n ∙ ap (λ k. (x ∷ take m xs) ∷ pieces c (drop k (x ∷ xs))) q),
        λ l. p ∙ ap (onto x) (last (omega (arith, n))),
      )

  cut_first : (xs : List ℕ) → Cut xs (piece_length c xs)
  cut_first [] = (λ l. absurd (omega arith), λ l. refl)
  cut_first (x ∷ xs) = cut_step x xs (eqb x c) refl (cut_first xs)

  -- some piece is there
  pub some_piece : (xs : List ℕ) → pieces c xs ≡ [] → ⊥
  some_piece xs e = elim (cases_lt (piece_length c xs) (length xs)) [
    | inl l ↦ let z : ◌≡◌ {A = ℕ} 0 1 = cc ((cut_first xs).0 l, e) in omega arith
    | inr l ↦ let z : ◌≡◌ {A = ℕ} 0 1 = cc ((cut_first xs).1 l, e) in omega arith
  ]

  -- at the place that is found
  pub cut_at : (xs : List ℕ) (o : Option ℕ) → o ≡ position (λ b. eqb b c) xs → CutAt c xs o
  cut_at xs o e =
      let n = piece_length c xs in
      elim (cases_lt n (length xs)) [
        | inl l ↦
            let q : o ≡ Some n = e ∙ ap (λ b. cond b (Some n) None) (lt-ltb n (length xs) l) in
            subst⁻¹ (CutAt c xs) q (l, (cut_first xs).0 l)
        | inr l ↦
            let q : o ≡ None = e ∙ ap (λ b. cond b (Some n) None) (le-ltb n (length xs) l) in
            subst⁻¹ (CutAt c xs) q ((cut_first xs).1 l)
      ]

-- the first piece ends before the first space, or where the bytes end; from one byte further on stand the others, if any
module _ (p : Piece) where
  abbrev pub bytes_of : List ℕ
  bytes_of = p.part.bytes.now

  pub after_first : (o : Option ℕ) (n m : ℕ) (q : Option Piece) → CutAt 32 bytes_of o → n ≡ unwrap_or o (length bytes_of) → m ≡ n + 1
      → Skips m p q → (pieces 32 bytes_of ≡ take n bytes_of ∷ pieces_of q) × (size_of q < size_of (Some p))
      × BeginsAt (p.part.at + length (take n bytes_of) + 1) q
  after_first None n m None cut e s few = (cut ∙ ap (λ ys. ys ∷ []) (sym (take_all n bytes_of (omega (arith, e)))), omega arith, tt)
  after_first None n m (Some q) cut e s (within, bytes, at) = absurd (omega (arith, e, s, within))
  after_first (Some i) n m None (inside, cut) e s few = absurd (omega (arith, e, s, inside, few))
  after_first (Some i) n m (Some q) (inside, cut) e s (within, bytes, at) =
      let next : i + 1 ≡ m = omega (arith, e, s) in (
        cut ∙ ap₂ (λ j k. take j bytes_of ∷ pieces 32 (drop k bytes_of)) (sym e) next ∙ ap (λ ys. take n bytes_of ∷ pieces 32 ys) (sym bytes),
        omega (arith, s, within, ap length bytes, length-drop m bytes_of),
        omega (arith, s, at, length-take-le n bytes_of (omega (arith, s, within))),
      )

not_empty : (ps : List (List ℕ)) → (ps ≡ [] → ⊥) → is_empty ps ≡ false
not_empty [] h = absurd (h refl)
not_empty (p ∷ ps) h = refl

-- nothing is left where no piece is
pub nothing_left : (r : Rest) (b : Bool) → is_some r.0 ≡ not b → b ≡ is_empty (pieces_left r)
unfolding pieces_left
nothing_left r b e = go r.0 b e
  where
    go : (o : Option Piece) (b : Bool) → is_some o ≡ not b → b ≡ is_empty (pieces_of o)
    go None true e = refl
    go None false e = cc
    go (Some p) true e = cc
    go (Some p) false e = sym (not_empty (pieces 32 p.part.bytes.now) (some_piece 32 p.part.bytes.now))

-- a line has not more bytes than a text
pub size_small : (r : Rest) → size r ≤ 16385
size_small r = go r.0
  where
    go : (o : Option Piece) → size_of o ≤ 16385
    go None = omega arith
    go (Some p) = omega (arith, p.within)
