-- A session worked out: two transactions that both write node 2, the second one first.
use Rattle.std.specs.Prelude.{◌≡◌, ℕ, ◌<◌, ◌≤◌, Bool, true, cond, not, ◌&&◌, ◌||◌, List, [], ◌∷◌, map, pos, negsuc, ◌==◌, ◌≢◌, nat_lt, refl}
use Rattle.std.proofs.Common.{sym, ◌∙◌, inl, inr, lit≤, arith}
use Rattle.std.proofs.lemmas.Bool.{or_cases, or_from, and_parts, and_left, eqb-true, eqb-false, ltb-true, le-ltb, not-true, ne_eqb, cases_eq, cases_Bool, cond-false}
use Rattle.basics.specs.Sets.{has}
use Rattle.basics.proofs.Masks.{has_one, no_member, within_members}
use Rattle.rules.specs.Rule.{Rule}
use Rattle.stores.specs.Store.{Store}
use Rattle.model.specs.Calls.{read, write, Call, begin, lock, release, access, end, done, waiting}
use Rattle.model.specs.Step.{session}
use Rattle.model.specs.Order.{serial_order}

-- node 0 is the parent of nodes 1 and 2
abbrev pub root_of : ℕ → ℕ
root_of n = cond (n == 1 || n == 2) 1 0

-- any first node; after it only a node whose parent is held
abbrev pub by_root : ℕ → ℕ → ℕ → Bool
by_root n locked held = nat_lt n 3 && (locked == 0 || (not (n == 0) && has held 0))

-- the laws of this rule
pub root_lower : (n p : ℕ) → has (root_of n) p ≡ true → p < n
root_lower n p h = elim (cases_Bool (n == 1 || n == 2)) [
  | inl e ↦
      let one : has 1 p ≡ true = rw e at h in
      let root : p ≡ 0 = eqb-true p 0 (sym (has_one 0 p) ∙ one) in
      elim (or_cases (n == 1) (n == 2) e) [ inl a ↦ omega (arith, eqb-true n 1 a) | inr a ↦ omega (arith, eqb-true n 2 a) ]
  | inr e ↦
      let none : has 0 p ≡ true = rw e at h in
      absurd (no_member p none)
]

pub no_root : (n : ℕ) → 3 ≤ n → root_of n ≡ 0
no_root n h = cond-false _ 1 0 (or_from _ _ (ne_eqb n 1 (λ q. omega (arith, h, q))) (ne_eqb n 2 (λ q. omega (arith, h, q))))

pub holds_root : (n locked held : ℕ) → (locked ≢ 0) → by_root n locked held ≡ true → (has (root_of n) 0 ≡ true) × (has held 0 ≡ true)
holds_root n locked held some may =
    let (few, how) = and_parts (nat_lt n 3) _ may in
    let small : n < 3 = ltb-true n 3 few in
    elim (or_cases (locked == 0) (not (n == 0) && has held 0) how) [
      | inl e ↦ absurd (some (eqb-true locked 0 e))
      | inr e ↦
          let (a, b) = and_parts (not (n == 0)) (has held 0) e in
          let leaf : n ≡ 0 → ⊥ = eqb-false n 0 (not-true _ a) in
          elim (cases_eq n 1) [
            | inl q ↦ (rw q refl, b)
            | inr f ↦
                let q : n ≡ 2 = omega (arith, leaf, f, small) in
                (rw q refl, b)
          ]
    ]

-- the rule of a tree with a root and two leaves
abbrev pub tree : Rule
tree = record {
  count = 3;
  parents = root_of;
  allows = by_root;
  few = lit≤ tt;
  no_parents = no_root;
  no_lock = λ n locked held h. and_left (nat_lt n 3) _ (le-ltb n 3 h);
  lower = root_lower;
  intersect = λ n locked₁ held₁ locked₂ held₂ some₁ part₁ may₁ some₂ part₂ may₂.
      let (root, h) = holds_root n locked₁ held₁ some₁ may₁ in
      (0, root, (within_members held₁ locked₁).0 part₁ 0 h, (holds_root n locked₂ held₂ some₂ may₂).1);
}

-- the values 0, 1 and 30, each from −128 to 127
abbrev pub page : Store
page = record {
  count = 3;
  values = λ n. cond (n == 1) (pos 1) (cond (n == 2) (pos 30) (pos 0));
  low = λ n. cond (nat_lt n 3) (negsuc 127) (pos 0);
  high = λ n. cond (nat_lt n 3) (pos 127) (pos 0);
}

-- the calls, in order
abbrev pub calls : List Call
calls =
    begin ∷ begin
    ∷ lock 1 0 ∷ lock 0 0 ∷ lock 1 2 ∷ access 1 2 (write (pos 20)) ∷ lock 0 0 ∷ end 1
    ∷ lock 0 0 ∷ lock 0 2 ∷ release 0 0 ∷ access 0 2 (write (pos 50)) ∷ access 0 2 read ∷ end 0 ∷ []

-- what it is answered, call by call
abbrev pub ExampleAnswers : Type 0
ExampleAnswers =
    map (λ e. e.answer) (session tree page calls).log
    ≡ done (pos 0) ∷ done (pos 1)
    ∷ done (pos 0) ∷ waiting 1 ∷ done (pos 0) ∷ done (pos 0) ∷ waiting 1 ∷ done (pos 0)
    ∷ done (pos 0) ∷ done (pos 0) ∷ done (pos 0) ∷ done (pos 0) ∷ done (pos 50) ∷ done (pos 0) ∷ []

-- its serial order is 1, 0, and node 2 ends at 50
abbrev pub Example : Type 0
Example = ExampleAnswers × (serial_order (session tree page calls).state ≡ 1 ∷ 0 ∷ []) × ((session tree page calls).state.store.values 2 ≡ pos 50)
