-- The guard rule of a table.
use Rattle.std.specs.Prelude.{◌≡◌, ℕ, suc, ◌<◌, true, not, List, [], ◌∷◌, length, ◌==◌, All, Contains, slice_index_or}
use Rattle.std.proofs.Common.{sym, ◌∙◌, subst, inl, inr, arith}
use Rattle.std.proofs.lemmas.List.Elements.{All-contains}
use Rattle.std.proofs.lemmas.List.Folds.{Any-from_list_any}
use Rattle.std.proofs.lemmas.Bool.{and_parts, or_cases, eqb-true, eqb-false, not-true, false≢true}
use Rattle.basics.specs.Sets.{has, within}
use Rattle.basics.proofs.Masks.{within_members, meets_members}
use Rattle.plans.specs.Meaning.{nodes_of}
use Rattle.rules.specs.declared.guard.Guard.{Guard}
use Rattle.rules.specs.declared.guard.GuardTable.{GuardTable}
use Rattle.rules.specs.Guards.{no_guard, admits, some_admits, crosses, fits}
use Rattle.rules.specs.Locking.{guard_allows}
use Rattle.rules.specs.Meaning.{guards_of}
use Rattle.rules.specs.Parents.{parents_in}
use Rattle.rules.specs.Rule.{Rule}
use Rattle.rules.specs.Ruling.{Intersects, rule_by}

-- the place of a guard that admits
pub which : (n locked held : ℕ) (gs : List Guard) → some_admits n locked held gs ≡ true → (i : ℕ) × (i < length gs) × (admits (slice_index_or gs i no_guard) n locked held ≡ true)
which n locked held [] t = absurd (false≢true t)
which n locked held (g ∷ gs) t = elim (or_cases (admits g n locked held) _ t) [
  | inl here ↦ (0, omega arith, here)
  | inr later ↦ let (i, l, e) = which n locked held gs later in (suc i, omega arith, e)
]

-- the guard of the table that admits
which_guard : (t : GuardTable) (n locked held : ℕ) → some_admits n locked held (guards_of t) ≡ true → (g : Guard) × Contains (guards_of t) g × (admits g n locked held ≡ true)
which_guard t n locked held e =
    let (k, g, l, at, here) = Any-from_list_any (λ g. admits g n locked held) (guards_of t) e in (g, (k, l, at), here)

-- where x crosses y, a transaction that x admits has locked a node that one that y admits holds
cross_intersect : (parents n locked₁ held₁ locked₂ held₂ : ℕ) (x y : Guard) → within x.a.mask parents ≡ true → crosses x y ≡ true → admits x n locked₁ held₁ ≡ true → admits y n locked₂ held₂ ≡ true → (p : ℕ) × (has parents p ≡ true) × (has locked₁ p ≡ true) × (has held₂ p ≡ true)
cross_intersect parents n locked₁ held₁ locked₂ held₂ x y up cross one two =
    let (node₁, sets₁) = and_parts (x.node.0 == n) _ one in
    let (node₂, sets₂) = and_parts (y.node.0 == n) _ two in
    let same : x.node.0 ≡ y.node.0 = eqb-true x.node.0 n node₁ ∙ sym (eqb-true y.node.0 n node₂) in
    elim (or_cases (not (x.node.0 == y.node.0)) _ cross) [
      | inl other ↦ absurd (eqb-false x.node.0 y.node.0 (not-true _ other) same)
      | inr meet ↦
          let (p, in-a, in_b) = (meets_members x.a.mask y.b.mask).0 meet in (
            p,
            (within_members x.a.mask parents).0 up p in-a,
            (within_members x.a.mask locked₁).0 (and_parts (within x.a.mask locked₁) _ sets₁).0 p in-a,
            (within_members y.b.mask held₂).0 (and_parts (within y.a.mask locked₂) _ sets₂).1 p in_b,
          )
    ]

-- the A of a guard of n lies in the parents of n
in_parents : (t : GuardTable) (g : Guard) (n locked held : ℕ) → Contains (guards_of t) g → admits g n locked held ≡ true → within g.a.mask (parents_in (nodes_of t.plan) n) ≡ true
in_parents t g n locked held there e =
    let node : g.node.0 ≡ n = eqb-true g.node.0 n (and_parts (g.node.0 == n) _ e).0 in
    let fit = All-contains (λ g. fits (parents_in (nodes_of t.plan) g.node.0) g ≡ true) (guards_of t) g t.fit there in
    let (some, sets) = and_parts (not (g.b.mask == 0)) _ fit in
    subst (λ m. within g.a.mask (parents_in (nodes_of t.plan) m) ≡ true) node (and_parts (within g.b.mask g.a.mask) _ sets).1

pub guards_intersect : (t : GuardTable) → Intersects (nodes_of t.plan) (guard_allows (guards_of t))
guards_intersect t n locked₁ held₁ locked₂ held₂ within₁ some₁ some₂ =
    let gs = guards_of t in
    let (x, x-in, one) = which_guard t n locked₁ held₁ some₁ in
    let (y, y-in, two) = which_guard t n locked₂ held₂ some₂ in
    let cross = All-contains (λ y. crosses x y ≡ true) gs y (All-contains (λ x. All (λ y. crosses x y ≡ true) gs) gs x t.cross x-in) y-in in
    cross_intersect (parents_in (nodes_of t.plan) n) n locked₁ held₁ locked₂ held₂ x y (in_parents t x n locked₁ held₁ x-in one) cross one two

abbrev pub guard_rule : GuardTable → Rule
guard_rule t = rule_by t.plan (guard_allows (guards_of t)) (guards_intersect t)
