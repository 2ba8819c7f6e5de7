-- Whose turn it is, by searches of the cursors.
use Rattle.std.proofs.Common.{◌≡◌, ℕ, ◌+◌, ◌-◌, ◌<◌, ◌≤◌, true, not, ◌&&◌, leb, List, [], ◌∷◌, map, length, get_or, drop, Some, None, Option, sym, ap, ◌∙◌, inl, inr, refl, arith, length-drop}
use lib.ListN.{get_or-map, length-map}
use Rattle.std.specs.List.{list_all, position, position_or_len}
use Rattle.std.specs.Option.{is_some, option_map, option_or}
use Rattle.std.proofs.lemmas.List.{get_or-drop}
use Rattle.std.proofs.lemmas.List.Sums.{fails_before_first, passes_at_first}
use Rattle.std.proofs.lemmas.Bool.{and_parts, and_from, le-leb, leb-true, both_ways, cases_lt, cond-true, cond-false, lt-ltb, le-ltb}
use Rattle.basics.specs.declared.transaction.TransactionNumber.{TransactionNumber}
use Rattle.model.specs.Calls.{or_else}
use Rattle.scripts_model.specs.declared.step.Step.{Step}
use Rattle.scripts_model.specs.Buffer.{script_at}
use Rattle.scripts_model.specs.Script.{Script}
use Rattle.scripts_model.specs.Schedule.{is_finished, unfinished, all_finished, from_on, in_round}
use Rattle.scripts_model.proofs.Lists.{lowest_is}
use Rattle.scripts.specs.Of.{number_or_none}

module _ (es : List Step) where
  pub all_none : (cs : List (Option ℕ)) → list_all (λ x. not (is_some x)) cs ≡ all_finished (map (script_at es) cs)
  all_none [] = refl
  all_none (None ∷ cs) = all_none cs
  all_none (Some i ∷ cs) = refl

  goes : (x : Option ℕ) → not (is_finished (script_at es x)) ≡ is_some x
  goes None = refl
  goes (Some i) = refl

  module _ (cs : List (Option ℕ)) (place : ℕ) where
    abbrev scripts : List Script
    scripts = map (script_at es) cs

    abbrev rest : List (Option ℕ)
    rest = drop place cs

    abbrev ahead : ℕ
    ahead = position_or_len is_some rest

    unfinished_at : (i : ℕ) → unfinished scripts (place + i) ≡ is_some (get_or rest i None)
    unfinished_at i =
        ap (λ x. not (is_finished x)) (get_or-map (script_at es) cs (place + i) None) ∙ goes (get_or cs (place + i) None)
        ∙ ap is_some (sym (get_or-drop place cs i None))

    -- before the first that is not done all are done
    done_before : (t : ℕ) → t < place + ahead → (leb place t && unfinished scripts t) ≡ true → ⊥
    done_before t h p =
        let (a, b) = and_parts (leb place t) (unfinished scripts t) p in
        let l : place ≤ t = leb-true place t a in
        let e : place + (t - place) ≡ t = omega arith in
        both_ways _ (fails_before_first is_some rest (t - place) None (omega arith))
        (sym (unfinished_at (t - place)) ∙ ap (unfinished scripts) e ∙ b)

    found : ahead < length rest → Some (place + ahead) ≡ from_on scripts place
    found h = elim (lowest_is (λ t. leb place t && unfinished scripts t) (length scripts)) [
      | inl (t, e, l, p, f) ↦ elim (cases_lt t (place + ahead)) [
        | inl m ↦ absurd (done_before t m p)
        | inr m ↦ elim (cases_lt (place + ahead) t) [
          | inl k ↦ absurd (both_ways _ (f (place + ahead) k) here)
          | inr k ↦ sym (e ∙ ap Some (let q : t ≡ place + ahead = omega arith in q))
        ]
      ]
      | inr (e, f) ↦ absurd (both_ways _ (f (place + ahead) (omega (arith, length-map cs (script_at es), length-drop place cs))) here)
    ]
      where
        here : (leb place (place + ahead) && unfinished scripts (place + ahead)) ≡ true
        here = and_from (leb place (place + ahead)) (unfinished scripts (place + ahead)) (le-leb place (place + ahead) (omega arith))
            (unfinished_at ahead ∙ passes_at_first is_some rest None h)

    none_found : length rest ≤ ahead → None ≡ from_on scripts place
    none_found h = elim (lowest_is (λ t. leb place t && unfinished scripts t) (length scripts)) [
      | inl (t, e, l, p, f) ↦ absurd (done_before t (omega (arith, length-map cs (script_at es), length-drop place cs)) p)
      | inr (e, f) ↦ sym e
    ]

    -- the first that is not done, from the place on
    pub first_is : (o : Option ℕ) → o ≡ position is_some rest → option_map (λ n. place + n) o ≡ from_on scripts place
    first_is o e = elim (cases_lt ahead (length rest)) [
      | inl h ↦ ap (option_map (λ n. place + n)) (e ∙ cond-true _ (Some ahead) None (lt-ltb ahead (length rest) h)) ∙ found h
      | inr h ↦ ap (option_map (λ n. place + n)) (e ∙ cond-false _ (Some ahead) None (le-ltb ahead (length rest) h)) ∙ none_found h
    ]

-- the first from the place on, or else the first of all
pub round_is : (l : List Script) (place : ℕ) (o again : Option TransactionNumber) → number_or_none o ≡ from_on l place
    → number_or_none again ≡ from_on l 0 → number_or_none (option_or o again) ≡ in_round l place
round_is l place None again e f = f ∙ ap (λ x. or_else x (from_on l 0)) e
round_is l place (Some t) again e f = ap (λ x. or_else x (from_on l 0)) e
