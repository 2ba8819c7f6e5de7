-- What a line makes of a description.
use Rattle.std.proofs.Common.{◌≡◌, ℕ, zero, suc, ◌<◌, ◌≤◌, Bool, true, false, cond, eqb, ltb, List, [], ◌∷◌, length, take, drop, Some, None, Ok, Err, Option, Result, sym, refl, ap, ◌∙◌, arith}
use mathlib.Core.Path.{subst⁻¹}
use Rattle.std.proofs.lemmas.List.{length-take-le}
use Rattle.std.proofs.lemmas.Bool.{ne_eqb}
use Rattle.basics.specs.declared.refusal.Refusal.{Refusal}
use Rattle.basics.specs.declared.refusal.Refusal.TheVariants.{MalformedLine, MisplacedLine}
use Rattle.basics.specs.declared.transaction.TransactionNumber.{TransactionNumber}
use Rattle.basics.specs.Refusals.{answer_unless}
use Rattle.plans.specs.Meaning.{nodes_of}
use Rattle.rules.specs.Meaning.{guards_of}
use Rattle.runtext_model.specs.Accepting.{is_empty, is_some, in_section, line_refusal, with_line, accepted, room_for_step}
use Rattle.runtext_model.specs.Description.{Description}
use Rattle.runtext_model.specs.Lines.{Line}
use Rattle.scripts_model.specs.declared.step.Step.{Step}
use Rattle.runtext.specs.declared.setup.Setup.{Setup}
use Rattle.runtext.specs.Counting.{turn_count}
use Rattle.runtext.specs.Of.{turns_in, description_of, why, left, Takes}

-- the front of a buffer that has room is empty where nothing is counted
pub none_taken : {X : Type 0} (n : ℕ) (xs : List X) → 0 < length xs → is_empty (take n xs) ≡ eqb n 0
none_taken zero xs l = refl
none_taken (suc n) [] l = absurd (omega arith)
none_taken (suc n) (x ∷ xs) l = sym (ne_eqb (suc n) 0 (λ e. omega arith))

module _ (d : Description) where
  pub malformed : (l : Option Line) → l ≡ None → accepted d l ≡ Err MalformedLine
  malformed l e = ap (accepted d) e

  pub misplaced : (x : Line) → in_section d x ≡ false → accepted d (Some x) ≡ Err MisplacedLine
  misplaced x f = ap (λ b. cond b (answer_unless (line_refusal d x) (with_line d x)) (Err MisplacedLine)) f

  pub judged : (x : Line) (o : Option Refusal) → in_section d x ≡ true → line_refusal d x ≡ o → accepted d (Some x) ≡ answer_unless o (with_line d x)
  judged x o t q =
      ap (λ b. cond b (answer_unless (line_refusal d x) (with_line d x)) (Err MisplacedLine)) t
      ∙ ap (λ r. answer_unless r (with_line d x)) q

-- a line that is refused changes nothing
pub refused : (s : Setup) (ss : List Step) (ts : List TransactionNumber) (l : Option Line) (e : Refusal) → accepted (description_of s ss ts) l ≡ Err e → Takes s s ss ss ts ts l (Err e)
refused s ss ts l e q = record {
  answers = sym (ap why q);
  leaves = sym (ap (left (description_of s ss ts)) q);
  more_steps = omega arith;
  kept_steps = refl;
  more_turns = omega arith;
  kept_turns = refl;
}

-- a line that is refused after the table was asked, which has left all as it was
pub unchanged : (s s' : Setup) (ss : List Step) (ts : List TransactionNumber) (l : Option Line) (e : Refusal) → accepted (description_of s ss ts) l ≡ Err e
    → description_of s' ss ts ≡ description_of s ss ts → s'.steps ≡ s.steps → s'.turns ≡ s.turns → Takes s s' ss ss ts ts l (Err e)
unchanged s s' ss ts l e q d a b = record {
  answers = sym (ap why q);
  leaves = d ∙ sym (ap (left (description_of s ss ts)) q);
  more_steps = omega arith;
  kept_steps = refl;
  more_turns = omega (arith, ap turn_count b);
  kept_turns = refl;
}

-- a line that is taken
pub taken : (s s' : Setup) (ss ss' : List Step) (ts ts' : List TransactionNumber) (l : Option Line) → accepted (description_of s ss ts) l ≡ Ok (description_of s' ss' ts')
    → s.steps ≤ s'.steps → drop s'.steps ss' ≡ drop s'.steps ss
    → turn_count s.turns ≤ turn_count s'.turns → drop (turn_count s'.turns) ts' ≡ drop (turn_count s'.turns) ts → Takes s s' ss ss' ts ts' l (Ok tt)
taken s s' ss ss' ts ts' l q a b e f = record {
  answers = sym (ap why q);
  leaves = sym (ap (left (description_of s ss ts)) q);
  more_steps = a;
  kept_steps = b;
  more_turns = e;
  kept_turns = f;
}

-- the description of a setup, with other steps
abbrev pub with_steps : Setup → ℕ → List TransactionNumber → List Step → Description
with_steps s scripts ts l = record {
  kind = s.kind;
  nodes = nodes_of s.table.plan;
  values = take (length (nodes_of s.table.plan)) s.values;
  guards = guards_of s.table;
  scripts = scripts;
  steps = l;
  turns = turns_in s.turns ts;
}

-- there is room for a step where fewer than 1,024 are counted
pub room_is : (s : Setup) (ss : List Step) (ts : List TransactionNumber) → 1024 ≤ length ss → room_for_step (description_of s ss ts) ≡ ltb s.steps 1024
room_is s ss ts l = let few = s.few in ap (λ n. ltb n 1024) (length-take-le s.steps ss (omega arith))

-- no turn list yet, no turns counted
pub no_turns : (o : Option ℕ) (ts : List TransactionNumber) → is_some (turns_in o ts) ≡ false → turn_count o ≡ 0
no_turns None ts f = refl
no_turns (Some n) ts f = cc

-- the description of a setup, with this turn list
abbrev pub with_turns : Setup → List Step → List TransactionNumber → Description
with_turns s ss l = record {
  kind = s.kind;
  nodes = nodes_of s.table.plan;
  values = take (length (nodes_of s.table.plan)) s.values;
  guards = guards_of s.table;
  scripts = s.scripts;
  steps = take s.steps ss;
  turns = Some l;
}

-- a step that is given unless it is refused
pub step_refused : (b : Bool) (x : Step) → None ≡ cond b (Some x) None → b ≡ false
step_refused true x e = cc
step_refused false x e = refl

pub step_good : (b : Bool) (x y : Step) → Some y ≡ cond b (Some x) None → (b ≡ true) × (y ≡ x)
step_good true x y e = (refl, cc)
step_good false x y e = absurd (cc)

-- the same line or the same result in other words
pub at_line : (s s' : Setup) (ss ss' : List Step) (ts ts' : List TransactionNumber) (l m : Option Line) (r : Result (Unit {0}) Refusal) → l ≡ m → Takes s s' ss ss' ts ts' m r → Takes s s' ss ss' ts ts' l r
at_line s s' ss ss' ts ts' l m r e t = subst⁻¹ (λ (x : Option Line). Takes s s' ss ss' ts ts' x r) e t

pub at_result : (s s' : Setup) (ss ss' : List Step) (ts ts' : List TransactionNumber) (l : Option Line) (r q : Result (Unit {0}) Refusal) → r ≡ q → Takes s s' ss ss' ts ts' l q → Takes s s' ss ss' ts ts' l r
at_result s s' ss ss' ts ts' l r q e t = subst⁻¹ (λ (x : Result (Unit {0}) Refusal). Takes s s' ss ss' ts ts' l x) e t
