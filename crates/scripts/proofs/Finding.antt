-- The scripts of a step buffer, by a loop over its entries.
use Rattle.std.proofs.Common.{◌≡◌, ℕ, ◌+◌, ◌<◌, Bool, not, cond, ◌&&◌, nat_lt, inl, inr, List, [], ◌∷◌, ◌++◌, length, drop, Some, None, Option, sym, refl, ap, ◌∙◌, add-one, arith, length-append, drop-cons}
use lib.ListN.{length-map}
use Rattle.std.proofs.lemmas.Bool.{cases_lt, cond-true, cond-false, lt-ltb, le-ltb}
use Rattle.std.proofs.lemmas.List.Recursion.{is_position_or_len}
use Rattle.std.proofs.lemmas.List.Sums.{prefix_len-le-length}
use Rattle.std.specs.List.{list_all, position, position_or_len}
use Rattle.std.specs.Option.{is_some, unwrap_or}
use Rattle.basics.specs.declared.transaction.TransactionNumber.{TransactionNumber}
use Rattle.scripts_model.specs.Limits.{numbers, all_below}
use Rattle.scripts_model.specs.declared.step.Step.{Step}
use Rattle.scripts_model.specs.declared.step.Step.TheVariants.{End}
use Rattle.scripts_model.specs.Script.{Action, going}
use Rattle.scripts_model.specs.Buffer.{action_of, then_actions, up_to_end, scripts_of, begins_at, cursors_from, script_at, step_at}
use Rattle.scripts_model.proofs.Cursors.{by_cursors}

-- as many cursors as scripts
pub same_count : (es : List Step) → length (cursors_from 0 es) ≡ length (scripts_of es)
same_count es = sym (length-map (cursors_from 0 es) (script_at es)) ∙ ap length (by_cursors.1 es) ∙ length-map (scripts_of es) going

-- at the entry i, with the cursors found so far
module _ (es : List Step) (i : ℕ) (h : i < length es) (found : List (Option ℕ)) (inv : cursors_from 0 es ≡ found ++ cursors_from i (drop i es)) where
  ahead : cursors_from i (drop i es) ≡ begins_at (action_of (step_at es i)) (i + 1) (cursors_from (i + 1) (drop (i + 1) es))
  ahead =
      ap (cursors_from i) (drop-cons es i End h)
      ∙ ap (λ n. begins_at (action_of (step_at es i)) (i + 1) (cursors_from (i + 1) (drop n es))) (sym (add-one i))

  at_end : step_at es i ≡ End → cursors_from 0 es ≡ found ++ (Some (i + 1) ∷ cursors_from (i + 1) (drop (i + 1) es))
  at_end e = inv ∙ ap (λ cs. found ++ cs) (ahead ∙ ap (λ e. begins_at (action_of e) (i + 1) (cursors_from (i + 1) (drop (i + 1) es))) e)

  pub one_too_many : step_at es i ≡ End → length found < length (scripts_of es)
  one_too_many e = omega (arith, same_count es, ap length (at_end e), length-append found (Some (i + 1) ∷ cursors_from (i + 1) (drop (i + 1) es)))

-- it is the end of a script
abbrev pub is_end : Step → Bool
is_end e = not (is_some (action_of e))

-- the entries before the first end
pub before_end : (es : List Step) → length (up_to_end es) ≡ position_or_len is_end es
before_end es = is_position_or_len (λ es. length (up_to_end es)) is_end refl (λ e es. by (action_of e) (up_to_end es)) es
  where
    by : (o : Option Action) (xs : List Action) → length (then_actions o xs) ≡ cond (not (is_some o)) 0 (1 + length xs)
    by None xs = refl
    by (Some x) xs = omega arith

-- how many those are, by the place of the first end
pub before_end_at : (es : List Step) (o : Option ℕ) → o ≡ position is_end es → unwrap_or o (length es) ≡ length (up_to_end es)
before_end_at es o e = elim (cases_lt (position_or_len is_end es) (length es)) [
  | inl h ↦ ap (λ o. unwrap_or o (length es)) (e ∙ cond-true _ _ None (lt-ltb _ (length es) h)) ∙ sym (before_end es)
  | inr h ↦
      let last : length es ≡ position_or_len is_end es = omega (arith, h, prefix_len-le-length (λ e. not (is_end e)) es) in
      ap (λ o. unwrap_or o (length es)) (e ∙ cond-false _ (Some (position_or_len is_end es)) None (le-ltb _ (length es) h)) ∙ last ∙ sym (before_end es)
]

-- each turn is of a script below the limit
pub below_is : (limit : ℕ) (turns : List TransactionNumber) → list_all (λ t. nat_lt t.0 limit) turns ≡ all_below limit (numbers turns)
below_is limit [] = refl
below_is limit (t ∷ turns) = ap (λ b. nat_lt t.0 limit && b) (below_is limit turns)
