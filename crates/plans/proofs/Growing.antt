-- A plan with one node more keeps its properties.
use Rattle.std.proofs.Common.{◌≡◌, ◌≢◌, ℕ, ◌<◌, ◌≤◌, true, not, ◌||◌, eqb, leb, List, [], ◌∷◌, ◌++◌, length, get_or, Option, Some, None, Ok, inl, inr, refl, sym, ◌∙◌, subst, arith, length-append}
use Rattle.std.proofs.Math.ListN.{get_or-append}
use Rattle.std.proofs.Math.Seq.{get_or-append_seam}
use Rattle.std.proofs.lemmas.List.{get_or_past}
use Rattle.std.proofs.lemmas.Bool.{cases_eq, cases_lt, and_parts, leb-true, leb-false, eqb-false, or_cases, or_parts, not-true, not-false, eqb-true}
use Rattle.basics.specs.declared.node.NodeNumber.{NodeNumber}
use Rattle.basics.specs.declared.refusal.Refusal.{Refusal}
use Rattle.basics.specs.Refusals.{answer_unless}
use Rattle.basics.specs.declared.refusal.Refusal.TheVariants.{LimitExceeded, BadParents}
use Rattle.basics.proofs.Refusing.{none_applies, none_holds}
use Rattle.basics.specs.Lists.{all_below, rising}
use Rattle.plans.specs.declared.plan.Node.{Node}
use Rattle.plans.specs.Building.{good_width, good_parents, node_refusal}

-- what is known of a node that is not refused
pub record Accepted (count width : ℕ) (parents : List NodeNumber) : Type 0 where
  pub room : count < 64
  pub wide : 2 ≤ width
  pub slim : width ≤ 16
  pub lower : all_below count parents ≡ true
  pub some : 0 < count → length parents ≡ 0 → ⊥

-- a call that is not refused meets no refusal
pub none_refused : {A : Type 0} (r : Option Refusal) (a b : A) → Ok a ≡ answer_unless r b → r ≡ None
none_refused None a b h = refl
none_refused (Some e) a b h = cc

pub accepted : (nodes : List Node) (width : ℕ) (parents : List NodeNumber) → node_refusal nodes width parents ≡ None → Accepted (length nodes) width parents
accepted nodes width parents e =
    let (limits, more) = none_applies (leb 64 (length nodes) || not (good_width width)) LimitExceeded _ e in
    let (full, narrow) = or_parts (leb 64 (length nodes)) (not (good_width width)) limits in
    let (low, high) = and_parts (leb 2 width) (leb width 16) (not-false (good_width width) narrow) in
    let (up, below) = and_parts (rising parents) _ (none_holds (good_parents (length nodes) parents) BadParents more) in
    let (lower, root) = and_parts (all_below (length nodes) parents) _ below in
    record {
      room = leb-false 64 (length nodes) full;
      wide = leb-true 2 width low;
      slim = leb-true width 16 high;
      lower = lower;
      some = λ l none. elim (or_cases (eqb (length nodes) 0) _ root) [
        | inl z ↦ let q = eqb-true (length nodes) 0 z in omega arith
        | inr some ↦ eqb-false (length parents) 0 (not-true _ some) none
      ];
    }

-- what holds of each of the elements, and of a new one put after them, holds of them all
pub each_added : {X : Type 0} (P : ℕ → X → Type 0) (none : X) (xs : List X) (new : X) → ((n : ℕ) → n ≢ length xs → P n (get_or xs n none)) → P (length xs) new → (n : ℕ) → P n (get_or (xs ++ new ∷ []) n none)
each_added P none xs new old here n = elim (cases_eq n (length xs)) [
  | inl q ↦ rw (q, get_or-append_seam) here
  | inr ne ↦ subst (P n) (sym (other ne)) (old n ne)
]
  where
    other : n ≢ length xs → get_or (xs ++ new ∷ []) n none ≡ get_or xs n none
    other ne = elim (cases_lt n (length xs)) [
      | inl l ↦ get_or-append xs (new ∷ []) none n l
      | inr past ↦ get_or_past (xs ++ new ∷ []) n none (omega (arith, length-append xs (new ∷ []))) ∙ sym (get_or_past xs n none past)
    ]
