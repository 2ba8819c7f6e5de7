use Rattle.std.proofs.Common.{◌≡◌, ℕ, ◌+◌, ◌*◌, ◌≤◌, true, false, ltb, length, Option, Some, None, MatchOption, rules, inl, inr, arith}
use Rattle.std.proofs.lemmas.Bool.{cases_lt, ltb-true, ltb-false}
use Rattle.plans.specs.Meaning.{nodes_of}
use Rattle.image_model.specs.Fields.{leading}
use Rattle.image_model.specs.ImageLaws.{leading_few}
use Rattle.images.proofs.Last.{IsLast, last_from_rfind}
use Rattle.images.proofs.packed.PackedStoreNodeStore.count.Goals as goal

-- m is one more than the last number below `all`, or 0 where there is none
counted : (r : Option ℕ) (Is : ℕ → Type 0) (m count all : ℕ) → all ≤ count → IsLast (λ n. ltb n all ≡ true) (λ n. ltb n all ≡ false) record { start = 0; end = count } r → MatchOption r (m ≡ 0) Is → ((x : ℕ) → Is x → m ≡ x + 1) → m ≡ all
counted None Is m count all few last e is = elim (cases_lt 0 all) [
  | inl l ↦ absurd (omega (arith, ltb-false 0 all (last 0 (omega arith) (omega arith))))
  | inr none ↦ omega arith
]
counted (Some i) Is m count all few (below, here, above) e is =
    let next = is i e in
    let under = ltb-true i all here in
    elim (cases_lt (i + 1) all) [
      | inl l ↦ absurd (omega (arith, ltb-false (i + 1) all (above (i + 1) (omega arith) (omega arith))))
      | inr done ↦ omega arith
    ]

pub returns : goal.returns
returns c =
    let s = c.args.self.now in
    let all = leading (nodes_of s.plan.now) (8 * length s.image.now) in
    let (xs, j, run, folds, found) = c.rfind.ensures.ran in
    let last = last_from_rfind _ (λ n. ltb n all ≡ true) (λ n. ltb n all ≡ false) (λ x q k. search rules) (λ x q k. search rules) xs record { start = 0; end = c.count.result } c.rfind.new.self j c.rfind.result run folds found in
    counted c.rfind.result _ c.map_or.result c.count.result all (omega (arith, leading_few (nodes_of s.plan.now) (8 * length s.image.now))) last c.map_or.ensures (λ x h. search rules)
