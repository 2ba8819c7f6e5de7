-- A plan makes a rule of any test that keeps the intersection law after the first lock.
use Rattle.std.specs.Prelude.{◌≡◌, ℕ, ◌≤◌, Bool, true, false, List, length, ◌==◌, ◌≢◌, nat_lt}
use Rattle.std.proofs.Common.{inl, inr}
use Rattle.std.proofs.lemmas.Bool.{and_parts, and_left, or_cases, eqb-true, le-ltb}
use Rattle.basics.specs.Sets.{has, within}
use Rattle.plans.specs.declared.plan.Node.{Node}
use Rattle.plans.specs.declared.plan.Plan.{Plan}
use Rattle.plans.specs.Meaning.{nodes_of}
use Rattle.rules.specs.Locking.{first_or}
use Rattle.rules.specs.Parents.{parents_in, no_parents, few, lower}
use Rattle.rules.specs.Rule.{Rule}

-- of two that pass the test at n, the first has locked a parent of n that the second holds
abbrev pub Intersects : List Node → (ℕ → ℕ → ℕ → Bool) → Type 0
Intersects nodes later =
    (n locked₁ held₁ locked₂ held₂ : ℕ) →
    within held₁ locked₁ ≡ true →
    later n locked₁ held₁ ≡ true →
    later n locked₂ held₂ ≡ true →
    (p : ℕ) × (has (parents_in nodes n) p ≡ true) × (has locked₁ p ≡ true) × (has held₂ p ≡ true)

pub no_lock : (nodes : List Node) (later : ℕ → ℕ → ℕ → Bool) (n locked held : ℕ) → length nodes ≤ n → first_or nodes later n locked held ≡ false
no_lock nodes later n locked held past = and_left (nat_lt n (length nodes)) _ (le-ltb n (length nodes) past)

-- what is allowed and not the first lock has passed the test
pub not_first : (nodes : List Node) (later : ℕ → ℕ → ℕ → Bool) (n locked held : ℕ) → (locked ≢ 0) → first_or nodes later n locked held ≡ true → later n locked held ≡ true
not_first nodes later n locked held some t = elim (or_cases (locked == 0) _ (and_parts (nat_lt n (length nodes)) _ t).1) [
  | inl z ↦ absurd (some (eqb-true locked 0 z))
  | inr l ↦ l
]

-- the rule by which any node may be the first lock, and `later` decides after it
abbrev pub rule_by : (p : Plan) (later : ℕ → ℕ → ℕ → Bool) → Intersects (nodes_of p) later → Rule
rule_by p later law = record {
  count = length (nodes_of p);
  parents = parents_in (nodes_of p);
  allows = first_or (nodes_of p) later;
  few = few p;
  no_parents = no_parents (nodes_of p);
  no_lock = no_lock (nodes_of p) later;
  lower = lower p;
  intersect = λ n locked₁ held₁ locked₂ held₂ some₁ within₁ may₁ some₂ within₂ may₂.
      law n locked₁ held₁ locked₂ held₂ within₁ (not_first (nodes_of p) later n locked₁ held₁ some₁ may₁) (not_first (nodes_of p) later n locked₂ held₂ some₂ may₂);
}
