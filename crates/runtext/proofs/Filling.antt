-- A buffer filled from its start, and the limit that a list keeps below.
use Rattle.std.proofs.Common.{◌≡◌, ℕ, zero, suc, ◌+◌, ◌<◌, ◌≤◌, max, List, [], ◌∷◌, ◌++◌, map, length, get_or, take, drop, set, sym, ap, ◌∙◌, arith}
use Rattle.std.proofs.lemmas.List.{append_assoc, drop_more, set_at, length-map, take_all, take_at, drop_at}
use Rattle.runtext.specs.Listing.{above}

-- one element more
pub filled_more : {X : Type 0} (front old : List X) (i : ℕ) (x : X) → length front ≡ i → i < length old → set (front ++ drop i old) i x ≡ (front ++ (x ∷ [])) ++ drop (i + 1) old
filled_more front old i x e l =
    ap (λ r. set (front ++ r) i x) (drop_more old i x l) ∙ set_at front (get_or old i x) (drop (i + 1) old) x i e ∙ sym (append_assoc front (x ∷ []) (drop (i + 1) old))

above_least : (m : ℕ) (ns : List ℕ) → m ≤ above m ns
above_least m [] = omega arith
above_least m (n ∷ ns) = omega (arith, above_least (max m (n + 1)) ns)

-- each number is below the limit
pub below_limit : (m : ℕ) (ns : List ℕ) (i : ℕ) → i < length ns → get_or ns i 0 < above m ns
below_limit m [] i l = absurd (omega arith)
below_limit m (n ∷ ns) zero l = omega (arith, above_least (max m (n + 1)) ns)
below_limit m (n ∷ ns) (suc i) l = below_limit (max m (n + 1)) ns i (omega arith)

-- the front of what is left is the number at the place
pub at_front : (ns rest : List ℕ) (i n : ℕ) → n ∷ rest ≡ drop i ns → i < length ns → (n ≡ get_or ns i 0) × (rest ≡ drop (i + 1) ns)
at_front ns rest i n e l = let d = drop_more ns i 0 l in (cc, cc)

-- a list that goes in whole stands first, and what comes after it stays
pub filled_whole : {X : Type 0} (f : ℕ → X) (ns : List ℕ) (old out : List X) (n : ℕ) → n ≡ length ns → out ≡ map f (take n ns) ++ drop n old
    → (take n out ≡ map f ns) × (drop n out ≡ drop n old)
filled_whole f ns old out n e q =
    let all : take n ns ≡ ns = take_all n ns (omega arith) in
    let is = q ∙ ap (λ l. map f l ++ drop n old) all in
    let long : length (map f ns) ≡ n = length-map ns f ∙ sym e in
    (ap (take n) is ∙ take_at (map f ns) (drop n old) n long, ap (drop n) is ∙ drop_at (map f ns) (drop n old) n long)
