-- Where the fields of a plan's nodes start.
use Rattle.std.proofs.Common.{◌≡◌, ℕ, zero, suc, ◌+◌, ◌-◌, ◌*◌, ◌<◌, ◌≤◌, List, [], ◌∷◌, ◌++◌, length, get_or, inl, inr, refl, sym, ap, ◌∙◌, arith, length-append}
use Rattle.std.proofs.Math.ListN.{get_or-append, get_or-map}
use Rattle.std.proofs.Math.Seq.{get_or-append_seam}
use Rattle.std.proofs.lemmas.List.{length-map, map-append}
use Rattle.std.proofs.lemmas.Bool.{cases_eq}
use Rattle.plans.specs.declared.plan.Node.{Node}
use Rattle.plans.specs.declared.plan.PlacedNode.{PlacedNode}
use Rattle.plans.specs.Nodes.{node_at, field_start}
use Rattle.plans.specs.Placed.{not_placed, node_of, nodes_in}

pub start_first : (nodes : List Node) → field_start nodes 0 ≡ 0
start_first [] = refl
start_first (x ∷ xs) = refl

start_suc : (nodes : List Node) (n : ℕ) → n < length nodes → field_start nodes (suc n) ≡ field_start nodes n + (node_at nodes n).width
start_suc [] n h = absurd (omega arith)
start_suc (x ∷ xs) zero h = omega (arith, start_first xs)
start_suc (x ∷ xs) (suc n) h = omega (arith, start_suc xs n (omega arith))

-- a field starts where the one before it ends
pub start_next : (nodes : List Node) (n : ℕ) → n < length nodes → field_start nodes (n + 1) ≡ field_start nodes n + (node_at nodes n).width
start_next nodes n h = let e : n + 1 ≡ suc n = omega arith in rw e (start_suc nodes n h)

-- nodes behind a place do not move what lies before it
pub start_append : (nodes more : List Node) (n : ℕ) → n ≤ length nodes → field_start (nodes ++ more) n ≡ field_start nodes n
start_append [] more zero h = start_first more
start_append [] more (suc n) h = absurd (omega arith)
start_append (x ∷ xs) more zero h = refl
start_append (x ∷ xs) more (suc n) h = ap (λ m. x.width + m) (start_append xs more n (omega arith))

-- past the last node nothing is added
pub start_past : (nodes : List Node) (n : ℕ) → length nodes ≤ n → field_start nodes n ≡ field_start nodes (length nodes)
start_past [] n h = refl
start_past (x ∷ xs) zero h = absurd (omega arith)
start_past (x ∷ xs) (suc n) h = ap (λ m. x.width + m) (start_past xs n (omega arith))

-- fields of at most 16 bits
pub start_short : (nodes : List Node) (n : ℕ) → ((k : ℕ) → k < n → (node_at nodes k).width ≤ 16) → field_start nodes n ≤ 16 * n
start_short [] n h = omega arith
start_short (x ∷ xs) zero h = omega arith
start_short (x ∷ xs) (suc n) h = omega (arith, h 0 (omega arith), start_short xs n (λ k l. h (suc k) (omega arith)))

-- each node is placed where the fields of all lower nodes end
abbrev pub Laid : List PlacedNode → Type 0
Laid xs = (n : ℕ) → n < length xs → (get_or xs n not_placed).start ≡ field_start (nodes_in xs) n

-- where the last node's field ends
pub end_of_last : (xs : List PlacedNode) (last : PlacedNode) → Laid xs → 0 < length xs → last ≡ get_or xs (length xs - 1) not_placed → last.start + last.width ≡ field_start (nodes_in xs) (length (nodes_in xs))
end_of_last xs last laid some is =
    let size : length (nodes_in xs) ≡ length xs = length-map xs node_of in
    let next = start_next (nodes_in xs) (length xs - 1) (omega arith) in
    let start : last.start ≡ field_start (nodes_in xs) (length xs - 1) = ap (λ x. x.start) is ∙ laid (length xs - 1) (omega arith) in
    let width : last.width ≡ (node_at (nodes_in xs) (length xs - 1)).width = ap (λ x. x.width) is ∙ sym (ap (λ x. x.width) (get_or-map node_of xs (length xs - 1) not_placed)) in
    let end : length xs - 1 + 1 ≡ length (nodes_in xs) = omega arith in
    omega (arith, next, start, width, ap (field_start (nodes_in xs)) end)

-- a new node at the end of the last one is placed too
pub laid_more : (xs : List PlacedNode) (new : PlacedNode) → Laid xs → new.start ≡ field_start (nodes_in xs) (length (nodes_in xs)) → Laid (xs ++ new ∷ [])
laid_more xs new laid at n l = elim (cases_eq n (length xs)) [
  | inl q ↦ rw (q, get_or-append_seam) (at ∙ ap (field_start (nodes_in xs)) size ∙ sym (before (length xs) (omega arith)))
  | inr ne ↦
      let inside : n < length xs = omega (arith, length-append xs (new ∷ [])) in
      ap (λ x. x.start) (get_or-append xs (new ∷ []) not_placed n inside) ∙ laid n inside ∙ sym (before n (omega arith))
]
  where
    size : length (nodes_in xs) ≡ length xs
    size = length-map xs node_of

    before : (n : ℕ) → n ≤ length xs → field_start (nodes_in (xs ++ new ∷ [])) n ≡ field_start (nodes_in xs) n
    before n h = ap (λ ns. field_start ns n) (map-append node_of xs (new ∷ [])) ∙ start_append (nodes_in xs) (nodes_in (new ∷ [])) n (omega (arith, size))
