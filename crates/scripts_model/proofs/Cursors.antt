-- Runs by cursors are runs of the scripts.
use Rattle.std.proofs.Common.{◌≡◌, ℕ, zero, suc, ◌+◌, List, [], ◌∷◌, map, length, get_or, drop, set, Some, None, Option, sym, refl, ap, ◌∙◌, ap₂, add-one, arith}
use lib.ListN.{get_or-map}
use lib.Seq.{map-set}
use Rattle.model.specs.State.{State}
use Rattle.model.specs.Calls.{Call, Answer, done, waiting, refused}
use Rattle.model.specs.Checks.{answer}
use Rattle.model.specs.Step.{after}
use Rattle.scripts_model.specs.declared.step.Step.{Step}
use Rattle.scripts_model.specs.Script.{Action, Script, going, next_call, moved, answered, Scripted, script, turn_by, turn, answer_by, turn_answer}
use Rattle.scripts_model.specs.Finishes.{steps_of}
use Rattle.scripts_model.specs.Buffer.{action_of, then_actions, up_to_end, begins, scripts_of, begins_at, cursors_from, script_at, call_by, step_at, cursor_moved, cursor_answered, Cursors, cursor_turn_by, cursor_turn, scripted_by, ByCursors}

-- what is left at a place is the step there, and what is left behind it
pub left_at : (es : List Step) (i : ℕ) → up_to_end (drop i es) ≡ then_actions (action_of (step_at es i)) (up_to_end (drop (suc i) es))
left_at [] zero = refl
left_at [] (suc i) = refl
left_at (e ∷ es) zero = refl
left_at (e ∷ es) (suc i) = left_at es i

call_then : (t : ℕ) (o : Option Action) (xs : List Action) → next_call t (then_actions o xs) ≡ call_by t o
call_then t None xs = refl
call_then t (Some x) xs = refl

module _ (es : List Step) where
  pub call_at : (t i : ℕ) → next_call t (up_to_end (drop i es)) ≡ call_by t (action_of (step_at es i))
  call_at t i = ap (next_call t) (left_at es i) ∙ call_then t (action_of (step_at es i)) _

  moved_then : (i : ℕ) (o : Option Action) → moved (then_actions o (up_to_end (drop (suc i) es))) ≡ script_at es (cursor_moved o i)
  moved_then i None = refl
  moved_then i (Some x) = rw add-one refl

  moved_at : (i : ℕ) → moved (up_to_end (drop i es)) ≡ script_at es (cursor_moved (action_of (step_at es i)) i)
  moved_at i = ap moved (left_at es i) ∙ moved_then i (action_of (step_at es i))

  pub answered_at : (i : ℕ) (a : Answer) → answered (up_to_end (drop i es)) a ≡ script_at es (cursor_answered (action_of (step_at es i)) i a)
  answered_at i (done v) = moved_at i
  answered_at i (waiting u) = refl
  answered_at i (refused k) = moved_at i

  -- both changes, by a call c
  with_call : Cursors → ℕ → ℕ → Call → Scripted
  with_call d t i c = record {
    session = after d.session c (answer d.session c);
    scripts = set (map (script_at es) d.cursors) t (answered (up_to_end (drop i es)) (answer d.session c));
  }

  turn_at : (d : Cursors) (t : ℕ) (x : Option ℕ) → scripted_by es (cursor_turn_by es d t x) ≡ turn_by (scripted_by es d) t (script_at es x)
  unfolding with_call
  turn_at d t None = refl
  turn_at d t (Some i) =
      let c = call_by t (action_of (step_at es i)) in
      let a = answer d.session c in
      ap (λ (l : List Script). record { session = after d.session c a; scripts = l })
      (map-set (script_at es) d.cursors t (cursor_answered (action_of (step_at es i)) i a) ∙ ap (set (map (script_at es) d.cursors) t) (sym (answered_at i a)))
      ∙ ap (with_call d t i) (sym (call_at t i))

  pub turn_is : (d : Cursors) (t : ℕ) → scripted_by es (cursor_turn es d t) ≡ turn (scripted_by es d) t
  turn_is d t =
      turn_at d t (get_or d.cursors t None)
      ∙ ap (turn_by (scripted_by es d) t) (sym (get_or-map (script_at es) d.cursors t None))

drop_tail : (l : List Step) (i : ℕ) (e : Step) (es : List Step) → drop i l ≡ e ∷ es → drop (suc i) l ≡ es
drop_tail [] zero e es q = let z : ◌≡◌ {A = ℕ} 0 1 = cc in absurd (omega arith)
drop_tail [] (suc i) e es q = let z : ◌≡◌ {A = ℕ} 0 1 = cc in absurd (omega arith)
drop_tail (x ∷ l) zero e es q = cc
drop_tail (x ∷ l) (suc i) e es q = drop_tail l i e es q

-- the first cursors
module _ (all : List Step) where
  cursors_first : (es : List Step) (i : ℕ) → drop i all ≡ es → map (script_at all) (cursors_from i es) ≡ map going (scripts_of es)
  cursors_first [] i q = refl
  cursors_first (e ∷ es) i q =
      let r : drop (i + 1) all ≡ es = rw add-one (drop_tail all i e es q) in
      go (action_of e) i r (cursors_first es (i + 1) r)
    where
      go : (o : Option Action) (i : ℕ) → drop (i + 1) all ≡ es → map (script_at all) (cursors_from (i + 1) es) ≡ map going (scripts_of es)
          → map (script_at all) (begins_at o (i + 1) (cursors_from (i + 1) es)) ≡ map going (begins o (up_to_end es) (scripts_of es))
      go None i r p = cc (ap (λ l. going (up_to_end l)) r, p)
      go (Some x) i r p = p

counted_by : (o : Option Action) (xs : List Action) (scripts : List (List Action)) → length (then_actions o xs) + steps_of (begins o xs scripts) ≡ suc (length xs + steps_of scripts)
counted_by None xs scripts = omega arith
counted_by (Some x) xs scripts = omega arith

-- every entry before the first end is an action there, and every other is a step of a script
pub all_counted : (es : List Step) → length (up_to_end es) + steps_of (scripts_of es) ≡ length es
all_counted [] = refl
all_counted (e ∷ es) = counted_by (action_of e) (up_to_end es) (scripts_of es) ∙ ap suc (all_counted es)

pub by_cursors : ByCursors
by_cursors = (turn_is, λ es. cursors_first es es 0 refl, all_counted)

-- for a program that keeps cursors: a turn of one that is at a place
module _ (es : List Step) (s : State) (l : List (Option ℕ)) (t : ℕ) where
  abbrev kept : Cursors
  kept = record { session = s; cursors = l }

  script_is : (x : Option ℕ) → get_or l t None ≡ x → script (scripted_by es kept) t ≡ script_at es x
  script_is x q = get_or-map (script_at es) l t None ∙ ap (script_at es) q

  -- the cursors after a turn that was answered so
  abbrev with_answer : ℕ → Answer → Cursors
  with_answer i a = record {
    session = after s (call_by t (action_of (step_at es i))) a;
    cursors = set l t (cursor_answered (action_of (step_at es i)) i a);
  }

  turn_of : (i : ℕ) (a : Answer) → get_or l t None ≡ Some i → a ≡ answer s (call_by t (action_of (step_at es i)))
      → (Some a ≡ turn_answer (scripted_by es kept) t) × (scripted_by es (with_answer i a) ≡ turn (scripted_by es kept) t)
  turn_of i a q z = (
    ap Some (z ∙ ap (answer s) (sym (call_at es t i))) ∙ sym (ap (answer_by (scripted_by es kept) t) (script_is (Some i) q)),
    ap (λ a. scripted_by es (with_answer i a)) z ∙ ap (λ x. scripted_by es (cursor_turn_by es kept t x)) (sym q) ∙ turn_is es kept t,
  )

  pub one_turn : (s' : State) (i : ℕ) (e : Step) (a : Answer) (x : Option ℕ) → get_or l t None ≡ Some i → e ≡ step_at es i
      → a ≡ answer s (call_by t (action_of e)) → s' ≡ after s (call_by t (action_of e)) a → x ≡ cursor_answered (action_of e) i a
      → (Some a ≡ turn_answer (scripted_by es kept) t) × (scripted_by es (record { session = s'; cursors = set l t x }) ≡ turn (scripted_by es kept) t)
  one_turn s' i e a x q w z y v =
      let (b, c) = turn_of i a q (z ∙ ap (λ e. answer s (call_by t (action_of e))) w) in (
        b,
        ap₂ (λ (s : State) (l : List (Option ℕ)). scripted_by es (record { session = s; cursors = l }))
            (y ∙ ap (λ e. after s (call_by t (action_of e)) a) w)
            (ap (set l t) (v ∙ ap (λ e. cursor_answered (action_of e) i a) w))
            ∙ c,
      )
