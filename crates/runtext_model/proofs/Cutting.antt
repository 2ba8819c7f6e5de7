-- Cutting a text at a byte, and joining the pieces again.
use Rattle.std.proofs.Common.{◌≡◌, ℕ, true, false, cond, eqb, List, [], ◌∷◌, ◌++◌, refl, ap, ◌∙◌, inl, inr}
use Rattle.std.specs.List.{AllByRecursion as All}
use Rattle.std.proofs.lemmas.Bool.{cases_Bool, cond-true, cond-false, eqb-true, eq-eqb}
use Rattle.runtext_model.specs.Pieces.{onto, pieces}
use Rattle.runtext_model.specs.Writing.{joined_by}

-- the byte c does not stand in the text
abbrev pub Free : ℕ → List ℕ → Type 0
Free c xs = All (λ x. eqb x c ≡ false) xs

-- there is a first piece
pub record Cut (ps : List (List ℕ)) : Type 0 where
  pub first : List ℕ
  pub more : List (List ℕ)
  pub whole : ps ≡ first ∷ more

-- a byte put before the first piece leaves a first piece
onto_cut : (x : ℕ) (ps : List (List ℕ)) → Cut (onto x ps)
onto_cut x [] = record { first = x ∷ []; more = []; whole = refl }
onto_cut x (p ∷ ps) = record { first = x ∷ p; more = ps; whole = refl }

-- a text has at least one piece
pub some_piece : (c : ℕ) (xs : List ℕ) → Cut (pieces c xs)
some_piece c [] = record { first = []; more = []; whole = refl }
some_piece c (x ∷ xs) =
    elim (eqb x c) as (λ b. Cut (cond b ([] ∷ pieces c xs) (onto x (pieces c xs)))) [
      | true ↦ record { first = []; more = pieces c xs; whole = refl }
      | false ↦ onto_cut x (pieces c xs)
    ]

-- a byte put before the first piece comes first when all are joined
joined_onto : (c x : ℕ) (ps : List (List ℕ)) → joined_by c (onto x ps) ≡ x ∷ joined_by c ps
joined_onto c x [] = refl
joined_onto c x (p ∷ []) = refl
joined_onto c x (p ∷ (q ∷ ps)) = refl

-- an empty first piece leaves the byte in front
joined_empty : (c : ℕ) (ps : List (List ℕ)) → Cut ps → joined_by c ([] ∷ ps) ≡ c ∷ joined_by c ps
joined_empty c [] k = let w = k.whole in cc
joined_empty c (p ∷ ps) k = refl

-- the pieces of a text, joined, are the text
pub joined_pieces : (c : ℕ) (xs : List ℕ) → joined_by c (pieces c xs) ≡ xs
joined_pieces c [] = refl
joined_pieces c (x ∷ xs) =
    let rest = joined_pieces c xs in
    elim (cases_Bool (eqb x c)) [
      | inl t ↦
          let q = eqb-true x c t in
          ap (joined_by c) (cond-true (eqb x c) ([] ∷ pieces c xs) (onto x (pieces c xs)) t)
          ∙ joined_empty c (pieces c xs) (some_piece c xs) ∙ cc
      | inr f ↦
          ap (joined_by c) (cond-false (eqb x c) ([] ∷ pieces c xs) (onto x (pieces c xs)) f)
          ∙ joined_onto c x (pieces c xs) ∙ ap (λ ys. x ∷ ys) rest
    ]

-- a text without the byte is one piece
pieces_free : (c : ℕ) (p : List ℕ) → Free c p → pieces c p ≡ p ∷ []
pieces_free c [] h = refl
pieces_free c (x ∷ xs) (here, rest) =
    cond-false (eqb x c) ([] ∷ pieces c xs) (onto x (pieces c xs)) here ∙ ap (onto x) (pieces_free c xs rest)

-- what stands before the first such byte is the first piece
pub pieces_first : (c : ℕ) (p rest : List ℕ) → Free c p → pieces c (p ++ (c ∷ rest)) ≡ p ∷ pieces c rest
pieces_first c [] rest h = cond-true (eqb c c) ([] ∷ pieces c rest) (onto c (pieces c rest)) (eq-eqb c c refl)
pieces_first c (x ∷ xs) rest (here, more) =
    cond-false (eqb x c) ([] ∷ pieces c (xs ++ (c ∷ rest))) (onto x (pieces c (xs ++ (c ∷ rest)))) here
    ∙ ap (onto x) (pieces_first c xs rest more)

-- pieces without the byte, joined and cut, come back
pub pieces_joined : (c : ℕ) (p : List ℕ) (ps : List (List ℕ)) → Free c p → All (Free c) ps → pieces c (joined_by c (p ∷ ps)) ≡ p ∷ ps
pieces_joined c p [] h rest = pieces_free c p h
pieces_joined c p (q ∷ ps) h (next, rest) =
    pieces_first c p (joined_by c (q ∷ ps)) h ∙ ap (λ xs. p ∷ xs) (pieces_joined c q ps next rest)
