-- A line that is accepted stands at the end of the description's lines.
use Rattle.std.proofs.Common.{◌≡◌, ℕ, ◌+◌, ◌≤◌, Bool, true, false, cond, not, ◌&&◌, ◌||◌, ltb, leb, List, [], ◌∷◌, ◌++◌, map, length, ℤ, Some, None, Ok, Option, sym, refl, ap, ◌∙◌, subst, inl, inr, arith}
use Rattle.std.proofs.lemmas.List.{append-nil, append_assoc, map_push, length_push}
use Rattle.std.proofs.lemmas.Bool.{cases_Bool, cond-true, cond-false, and_parts, or_parts, not-true, not-false, both_ways, leb-false}
use Rattle.basics.specs.declared.refusal.Refusal.{Refusal}
use Rattle.basics.specs.declared.refusal.Refusal.TheVariants.{LimitExceeded, BadParents, BadGuard}
use Rattle.basics.specs.Lists.{all_below, rising, gathered}
use Rattle.basics.specs.Refusals.{answer_unless}
use Rattle.basics.proofs.Listing.{all_below_more}
use Rattle.image_model.specs.Fields.{fits}
use Rattle.plans.specs.declared.plan.Node.{Node}
use Rattle.plans.specs.Building.{good_width}
use Rattle.rules.specs.Adding.{in_limits, good_guard}
use Rattle.scripts_model.specs.declared.step.Step.{Step}
use Rattle.scripts_model.specs.declared.step.Step.TheVariants.{End, Lock, Release, Read, Write, Adjust}
use Rattle.runtext_model.specs.Accepting.{is_some, is_empty, is_guards, node_number, transaction, before_scripts, before_turns, in_section, good_step, room_for_step, limit_unless, line_refusal, with_line, accepted}
use Rattle.runtext_model.specs.Description.{Description, blank}
use Rattle.runtext_model.specs.Lines.{Line, rule, node, guard, script, step, turns}
use Rattle.runtext_model.specs.Writing.{members, rule_lines, node_lines, guard_lines, entry_line, lines_of}
use Rattle.runtext_model.proofs.Members.{members_listed}

-- values stand beside at most 64 nodes, and nothing stands before what it must follow
pub record Ordered (d : Description) : Type 0 where
  pub same : length d.values ≡ length d.nodes
  pub few : length d.nodes ≤ 64
  pub unruled : is_some d.kind ≡ false → is_empty d.nodes ≡ true
  pub no_guards : is_empty d.nodes ≡ true → d.guards ≡ []
  pub no_steps : is_empty d.nodes ≡ true → d.steps ≡ []
  pub no_turns : is_empty d.nodes ≡ true → d.turns ≡ None

-- nothing is in order
pub blank_ordered : Ordered blank
blank_ordered = record { same = refl; few = omega arith; unruled = λ e. refl; no_guards = λ e. refl; no_steps = λ e. refl; no_turns = λ e. refl }

-- a list, or an answer, that the test calls empty
empty_is : {A : Type 0} (xs : List A) → is_empty xs ≡ true → xs ≡ []
empty_is [] h = refl
empty_is (x ∷ xs) h = absurd (both_ways _ refl h)

none_is : {A : Type 0} (o : Option A) → is_some o ≡ false → o ≡ None
none_is None h = refl
none_is (Some x) h = absurd (both_ways _ h refl)

-- a list with one more is not empty
push_some : {A : Type 0} (xs : List A) (x : A) → is_empty (xs ++ (x ∷ [])) ≡ false
push_some [] x = refl
push_some (y ∷ ys) x = refl

-- what is known of a line that is accepted
record Taken (d : Description) (l : Line) (e : Description) : Type 0 where
  placed : in_section d l ≡ true
  unrefused : line_refusal d l ≡ None
  same : e ≡ with_line d l

-- an answer that no refusal took
not_refused : {A : Type 0} (r : Option Refusal) (a b : A) → answer_unless r a ≡ Ok b → (r ≡ None) × (b ≡ a)
not_refused None a b h = (refl, cc)
not_refused (Some x) a b h = (cc, cc)

-- that a line is accepted tells just this
taken : (d : Description) (l : Line) (e : Description) → accepted d (Some l) ≡ Ok e → Taken d l e
taken d l e h = elim (cases_Bool (in_section d l)) [
  | inl t ↦
      let (none, same) = not_refused (line_refusal d l) (with_line d l) e (sym (cond-true (in_section d l) _ _ t) ∙ h) in
      record { placed = t; unrefused = none; same = same }
  | inr f ↦ let k = sym (cond-false (in_section d l) _ _ f) ∙ h in absurd (let z : ◌≡◌ {A = ℕ} 0 1 = cc in omega arith)
]

-- one more line in its section
module _ (r n g s : List Line) (l : Line) where
  place_node : r ++ ((n ++ (l ∷ [])) ++ []) ≡ (r ++ (n ++ [])) ++ (l ∷ [])
  place_node = simp (append-nil, append_assoc)

  place_guard : r ++ (n ++ ((g ++ (l ∷ [])) ++ [])) ≡ (r ++ (n ++ (g ++ []))) ++ (l ∷ [])
  place_guard = simp (append-nil, append_assoc)

  place_step : r ++ (n ++ (g ++ ((s ++ (l ∷ [])) ++ []))) ≡ (r ++ (n ++ (g ++ (s ++ [])))) ++ (l ∷ [])
  place_step = simp (append-nil, append_assoc)

  place_turns : r ++ (n ++ (g ++ (s ++ (l ∷ [])))) ≡ (r ++ (n ++ (g ++ (s ++ [])))) ++ (l ∷ [])
  place_turns = simp (append-nil, append_assoc)

-- the lines of nodes, one node further
nodes_push : (xs : List Node) (vs : List ℤ) (x : Node) (v : ℤ) → length vs ≡ length xs → node_lines (xs ++ (x ∷ [])) (vs ++ (v ∷ [])) ≡ node_lines xs vs ++ (node x.width v (members x.parents.mask) ∷ [])
nodes_push [] [] x v h = refl
nodes_push [] (u ∷ vs) x v h = absurd (omega arith)
nodes_push (y ∷ xs) [] x v h = absurd (omega arith)
nodes_push (y ∷ xs) (u ∷ vs) x v h = ap (λ ls. node y.width u (members y.parents.mask) ∷ ls) (nodes_push xs vs x v (omega arith))

-- no refusal applies
none_applies : (b : Bool) (e : Refusal) (rest : Option Refusal) → cond b (Some e) rest ≡ None → (b ≡ false) × (rest ≡ None)
none_applies true e rest h = (cc, cc)
none_applies false e rest h = (refl, h)

-- no limit is exceeded
no_limit : (b : Bool) → limit_unless b ≡ None → b ≡ true
no_limit true h = refl
no_limit false h = cc

-- the parents are good
good_parts : (b : Bool) → cond b None (Some BadParents) ≡ None → b ≡ true
good_parts true h = refl
good_parts false h = cc

-- a good step is its own line
step_entry : (count : ℕ) (s : Step) → good_step count s ≡ true → entry_line s ≡ step s
step_entry count End h = absurd (both_ways _ refl h)
step_entry count (Lock n) h = refl
step_entry count (Release n) h = refl
step_entry count (Read n) h = refl
step_entry count (Write n v) h = refl
step_entry count (Adjust n d) h = refl

-- the turns of a turn line
turns_back : (ts : List ℕ) → map (λ t. t.0) (map transaction ts) ≡ ts
turns_back [] = refl
turns_back (t ∷ ts) = ap (λ xs. t ∷ xs) (turns_back ts)

-- where the scripts have not begun
scripts_none : (d : Description) → before_scripts d ≡ true → (d.steps ≡ []) × (d.turns ≡ None)
scripts_none d h =
    let (a, b) = and_parts (is_empty d.steps) _ h in
    (empty_is d.steps a, none_is d.turns (not-true _ b))

-- where the turn list does not stand yet
turns_none : (d : Description) → before_turns d ≡ true → (is_empty d.nodes ≡ false) × (d.turns ≡ None)
turns_none d h =
    let (a, b) = and_parts (not (is_empty d.nodes)) _ h in
    (not-true _ a, none_is d.turns (not-true _ b))

-- a node that is not refused has room, and its parents are the members of their set
record NodeKnown (d : Description) (ps : List ℕ) : Type 0 where
  room : length d.nodes + 1 ≤ 64
  listed : members (gathered 0 (map node_number ps)) ≡ ps

node_known : (d : Description) (w : ℕ) (v : ℤ) (ps : List ℕ) → line_refusal d (node w v ps) ≡ None → NodeKnown d ps
node_known d w v ps u =
    let (limits, rest) = none_applies (leb 64 (length d.nodes) || not (good_width w && fits w v)) LimitExceeded _ u in
    let room = leb-false 64 (length d.nodes) (or_parts (leb 64 (length d.nodes)) _ limits).0 in
    let (up, more) = and_parts (rising (map node_number ps)) _ (good_parts _ rest) in
    let below = (and_parts (all_below (length d.nodes) (map node_number ps)) _ more).0 in
    record {
      room = omega arith;
      listed = members_listed ps up (all_below_more (length d.nodes) 64 (map node_number ps) (omega arith) below);
    }

-- the two lists of a guard that is not refused are the members of their sets
guard_known : (d : Description) (n : ℕ) (a b : List ℕ) → length d.nodes ≤ 64 → line_refusal d (guard n a b) ≡ None → (members (gathered 0 (map node_number a)) ≡ a) × (members (gathered 0 (map node_number b)) ≡ b)
guard_known d n a b few u =
    let (limits, rest) = none_applies (not (in_limits d.nodes d.guards (node_number n) (map node_number a) (map node_number b))) LimitExceeded _ u in
    let (good, _) = none_applies (not (good_guard d.nodes (node_number n) (map node_number a) (map node_number b))) BadGuard _ rest in
    let (_, named) = and_parts (ltb (length d.guards) 256) _ (not-false _ limits) in
    let (_, lists) = and_parts (ltb n (length d.nodes)) _ named in
    let (below-a, below-b) = and_parts (all_below (length d.nodes) (map node_number a)) _ lists in
    let (up-a, more) = and_parts (rising (map node_number a)) _ (not-false _ good) in
    let (up-b, _) = and_parts (rising (map node_number b)) _ more in (
      members_listed a up-a (all_below_more (length d.nodes) 64 (map node_number a) few below-a),
      members_listed b up-b (all_below_more (length d.nodes) 64 (map node_number b) few below-b),
    )

-- its lines are those from before, and the new one
adds : (d : Description) (l : Line) → Ordered d → in_section d l ≡ true → line_refusal d l ≡ None → lines_of (with_line d l) ≡ lines_of d ++ (l ∷ [])
adds d (rule k) o p u =
    let kind = none_is d.kind (not-true _ p) in
    let bare = o.unruled (not-true _ p) in
    rw (kind, empty_is d.nodes bare, o.no_guards bare, o.no_steps bare, o.no_turns bare) refl
adds d (node w v ps) o p u =
    let (_, after) = and_parts (is_some d.kind) _ p in
    let (bare, scripts) = and_parts (is_empty d.guards) _ after in
    let (steps, last) = scripts_none d scripts in
    let known = node_known d w v ps u in
    let line : node_lines (with_line d (node w v ps)).nodes (with_line d (node w v ps)).values ≡ node_lines d.nodes d.values ++ (node w v ps ∷ []) =
    nodes_push d.nodes d.values _ v o.same ∙ ap (λ xs. node_lines d.nodes d.values ++ (node w v xs ∷ [])) known.listed in
    rw (line, empty_is d.guards bare, steps, last) (place_node (rule_lines d.kind) (node_lines d.nodes d.values) [] [] (node w v ps))
adds d (guard n a b) o p u =
    let (_, after) = and_parts (is_guards d.kind) _ p in
    let (steps, last) = scripts_none d (and_parts (not (is_empty d.nodes)) _ after).1 in
    let (one, two) = guard_known d n a b o.few u in
    let line : guard_lines (with_line d (guard n a b)).guards ≡ guard_lines d.guards ++ (guard n a b ∷ []) =
    map_push _ d.guards _ ∙ ap (λ xs. guard_lines d.guards ++ (guard n xs (members (gathered 0 (map node_number b))) ∷ [])) one
    ∙ ap (λ xs. guard_lines d.guards ++ (guard n a xs ∷ [])) two in
    rw (line, steps, last) (place_guard (rule_lines d.kind) (node_lines d.nodes d.values) (guard_lines d.guards) [] (guard n a b))
adds d script o p u =
    let (_, last) = turns_none d p in
    let line = map_push entry_line d.steps End in
    rw (line, last) (place_step (rule_lines d.kind) (node_lines d.nodes d.values) (guard_lines d.guards) (map entry_line d.steps) script)
adds d (step s) o p u =
    let (_, last) = turns_none d (and_parts (not (is_empty d.steps)) _ p).1 in
    let good = (and_parts (room_for_step d) _ (no_limit _ u)).1 in
    let line : map entry_line (d.steps ++ (s ∷ [])) ≡ map entry_line d.steps ++ (step s ∷ []) =
    map_push entry_line d.steps s ∙ ap (λ l. map entry_line d.steps ++ (l ∷ [])) (step_entry (length d.nodes) s good) in
    rw (line, last) (place_step (rule_lines d.kind) (node_lines d.nodes d.values) (guard_lines d.guards) (map entry_line d.steps) (step s))
adds d (turns ts) o p u =
    let (_, none) = turns_none d p in
    rw (turns_back ts, none) (place_turns (rule_lines d.kind) (node_lines d.nodes d.values) (guard_lines d.guards) (map entry_line d.steps) (turns ts))

-- the sections stay in order
keeps : (d : Description) (l : Line) → Ordered d → in_section d l ≡ true → line_refusal d l ≡ None → Ordered (with_line d l)
keeps d (rule k) o p u = record {
  same = o.same;
  few = o.few;
  unruled = λ e. absurd (both_ways _ e refl);
  no_guards = o.no_guards;
  no_steps = o.no_steps;
  no_turns = o.no_turns;
}
keeps d (node w v ps) o p u = record {
  same = simp length_push (omega (arith, o.same));
  few = simp length_push (node_known d w v ps u).room;
  unruled = λ e. absurd (both_ways (is_some d.kind) e (and_parts (is_some d.kind) _ p).0);
  no_guards = λ e. absurd (both_ways _ (push_some d.nodes _) e);
  no_steps = λ e. absurd (both_ways _ (push_some d.nodes _) e);
  no_turns = λ e. absurd (both_ways _ (push_some d.nodes _) e);
}
keeps d (guard n a b) o p u =
    let some = not-true _ (and_parts (not (is_empty d.nodes)) _ (and_parts (is_guards d.kind) _ p).1).0 in
    record {
      same = o.same;
      few = o.few;
      unruled = o.unruled;
      no_guards = λ e. absurd (both_ways _ some e);
      no_steps = o.no_steps;
      no_turns = o.no_turns;
    }
keeps d script o p u =
    let (some, _) = turns_none d p in
    record {
      same = o.same;
      few = o.few;
      unruled = o.unruled;
      no_guards = o.no_guards;
      no_steps = λ e. absurd (both_ways _ some e);
      no_turns = o.no_turns;
    }
keeps d (step s) o p u =
    let (some, _) = turns_none d (and_parts (not (is_empty d.steps)) _ p).1 in
    record {
      same = o.same;
      few = o.few;
      unruled = o.unruled;
      no_guards = o.no_guards;
      no_steps = λ e. absurd (both_ways _ some e);
      no_turns = o.no_turns;
    }
keeps d (turns ts) o p u =
    let (some, _) = turns_none d p in
    record {
      same = o.same;
      few = o.few;
      unruled = o.unruled;
      no_guards = o.no_guards;
      no_steps = o.no_steps;
      no_turns = λ e. absurd (both_ways _ some e);
    }

-- a line that is accepted comes last, and the sections stay in order
pub line_added : (d : Description) (l : Line) (e : Description) → Ordered d → accepted d (Some l) ≡ Ok e → (lines_of e ≡ lines_of d ++ (l ∷ [])) × Ordered e
line_added d l e o h =
    let t = taken d l e h in
    (ap lines_of t.same ∙ adds d l o t.placed t.unrefused, subst Ordered (sym t.same) (keeps d l o t.placed t.unrefused))
