-- A call is refused by the first check that applies, or none applies.
use Rattle.std.proofs.Common.{◌≡◌, Bool, true, false, List, [], ◌∷◌, ◌++◌, Some, refl, ap, ◌∙◌, inl, inr}
use Rattle.std.proofs.lemmas.Bool.{cases_Bool, cond_both, cond-false}
use Rattle.basics.specs.declared.refusal.Refusal.{Refusal}
use Rattle.model.specs.Calls.{Answer, refused, first_refusal, or_else, unless_refused}

-- P holds of each refusal, where its check applies and none before it, and of a where none applies
abbrev pub Cases : (Answer → Type 0) → List (Bool × Refusal) → Answer → Type 0
Cases P [] a = P a
Cases P (c ∷ cs) a = (c.0 ≡ true → P (refused c.1)) × (c.0 ≡ false → Cases P cs a)

-- no check applies
abbrev pub Passed : List (Bool × Refusal) → Type 0
Passed [] = Unit {0}
Passed (c ∷ cs) = (c.0 ≡ false) × Passed cs

pub refused_cases : (P : Answer → Type 0) (cs : List (Bool × Refusal)) (a : Answer) → Cases P cs a → P (unless_refused (first_refusal cs) a)
refused_cases P [] a p = p
refused_cases P (c ∷ cs) a p = cond_both c.0 (Some c.1) (first_refusal cs) (λ o. P (unless_refused o a)) p.0 (λ e. refused_cases P cs a (p.1 e))

-- checks in two parts
pub or_else_append : (cs ds : List (Bool × Refusal)) → or_else (first_refusal cs) (first_refusal ds) ≡ first_refusal (cs ++ ds)
or_else_append [] ds = refl
or_else_append (c ∷ cs) ds = elim (cases_Bool c.0) [ inl e ↦ rw e refl | inr e ↦ rw e (or_else_append cs ds) ]

-- where every refusal is alike
pub alike_cases : (P : Answer → Type 0) (cs : List (Bool × Refusal)) (a : Answer) → ((k : Refusal) → P (refused k)) → (Passed cs → P a) → Cases P cs a
alike_cases P [] a r f = f tt
alike_cases P (c ∷ cs) a r f = (λ e. r c.1, λ e. alike_cases P cs a r (λ p. f (e, p)))

pub none_applies : (cs : List (Bool × Refusal)) (a : Answer) → Passed cs → unless_refused (first_refusal cs) a ≡ a
none_applies [] a p = refl
none_applies (c ∷ cs) a p = ap (λ o. unless_refused o a) (cond-false c.0 (Some c.1) (first_refusal cs) p.0) ∙ none_applies cs a p.1
