-- What a turn does: the script moves on, or its transaction waits for a held node and nothing else changes.
use Rattle.std.proofs.Common.{◌≡◌, ℕ, ◌+◌, ◌<◌, ◌≤◌, ◌⊎◌, List, [], ◌∷◌, ◌++◌, length, get_or, set, Some, None, Option, sym, refl, ap, ◌∙◌, subst, inl, inr, arith, length-set, get_or-set_other, get_or-set_same}
use mathlib.Core.Path.{subst⁻¹}
use lib.Seq.{set-get_or}
use Rattle.std.proofs.lemmas.Bool.{cases_eq, lt-leb}
use Rattle.basics.specs.declared.transaction.TransactionNumber.{TransactionNumber}
use Rattle.basics.specs.declared.refusal.Refusal.{Refusal}
use Rattle.model.specs.declared.table.Phase.{Phase}
use Rattle.model.specs.declared.table.Phase.TheVariants.{Open, Waiting, Ended}
use Rattle.model.specs.declared.table.Record.{Record}
use Rattle.rules.specs.Rule.{Rule}
use Rattle.stores.specs.Store.{Store}
use Rattle.model.specs.Calls.{Call, end, Answer, refused, unless_refused}
use Rattle.model.specs.State.{State, node, phase, holder, begun_count, Waits}
use Rattle.model.specs.Step.{after, granted, released, ended, with_phase, session}
use Rattle.model.specs.Checks.{is_ended, is_waiting, end_checks, refusal, unrefused, grant_or_wait, answer}
use Rattle.model.specs.History.{lockers_of, accesses}
use Rattle.model.specs.Progress.{Progress}
use Rattle.model.proofs.Refusing.{none_applies}
use Rattle.model.proofs.Records.{Replaced, replaced}
use Rattle.model.proofs.Inv.{Inv}
use Rattle.model.proofs.Steps.{every_run}
use Rattle.model.proofs.Progresses.{every_session_progresses}
use Rattle.scripts_model.specs.Script.{Action, locks, releases, does, Script, going, finished, next_call, moved, answered, Scripted, script, turn_by}
use Rattle.scripts_model.proofs.Lists.{size, left, left_set}
use Rattle.scripts_model.proofs.Starts.{run_push}

-- a finished script is ended; another is open, or waits for the lock that is its next step
abbrev pub Fits : Script → Phase → Type 0
Fits finished p = p ≡ Ended
Fits (going xs) p = (p ≡ Open) ⊎ ((n : ℕ) × (ys : List Action) × (xs ≡ locks n ∷ ys) × (p ≡ Waiting (node n)))

-- t waits for a node that is held
abbrev pub Stuck : State → ℕ → Type 0
Stuck s t = (n : ℕ) × (u : TransactionNumber) × Waits s t n × (holder s n ≡ Some u)

-- s' is s after the next step of t, which had the steps xs left and then is at x
pub record Effect (s s' : State) (t : ℕ) (xs : List Action) (x : Script) : Type 0 where
  pub begun : s'.begun ≡ s.begun
  pub others : (u : ℕ) → (u ≡ t → ⊥) → phase s' u ≡ phase s u
  pub fits : Fits x (phase s' t)
  pub outcome : (x ≡ moved xs) ⊎ ((x ≡ going xs) × (s'.holders ≡ s.holders) × Stuck s' t)

module _ (s : State) (p : Progress s) (long : length s.records ≡ 32) (few : s.begun ≤ 32) (t : ℕ) (h : t < s.begun) where
  abbrev After : List Action → Answer → Type 0
  After xs a = Effect s (after s (next_call t xs) a) t xs (answered xs a)

  replaces : (s' : State) (r : Record) → s'.records ≡ set s.records t r → Replaced s s' t r
  replaces s' r e = replaced s s' t r (omega arith) e

  refuses : (x : Action) (xs : List Action) → phase s t ≡ Open → (k : Refusal) → After (x ∷ xs) (refused k)
  refuses x xs e k = record { begun = refl; others = λ u f. refl; fits = inl e; outcome = inl refl }

  locking : (n : ℕ) (xs : List Action) (o : Option TransactionNumber) → holder s n ≡ o → After (locks n ∷ xs) (grant_or_wait o)
  locking n xs None e =
      let r = replaces (granted s t n) _ refl in
      record { begun = refl; others = r.phase_there; fits = inl (r.phase_here t refl); outcome = inl refl }
  locking n xs (Some u) e =
      let r = replaces (with_phase s t (Waiting (node n))) _ refl in
      let w : phase (with_phase s t (Waiting (node n))) t ≡ Waiting (node n) = r.phase_here t refl in
      record { begun = refl; others = r.phase_there; fits = inr (n, xs, refl, w); outcome = inr (refl, refl, (n, u, w, e)) }

  ending : phase s t ≡ Open → After [] (answer s (end t))
  ending e =
      let r = replaces (ended s t) _ refl in
      subst⁻¹ (After []) (none_applies (end_checks s t) (unrefused s (end t)) (lt-leb (begun_count s) t (omega arith), (ap is_ended e, (ap is_waiting e, tt))))
      (record { begun = refl; others = r.phase_there; fits = r.phase_here t refl; outcome = inl refl })

  -- a step of an open transaction that is not refused
  passing : (x : Action) (xs : List Action) → phase s t ≡ Open → After (x ∷ xs) (unrefused s (next_call t (x ∷ xs)))
  passing (locks n) xs e = locking n xs (holder s n) refl
  passing (releases n) xs e =
      let r = replaces (released s t n) _ refl in
      record { begun = refl; others = r.phase_there; fits = inl (r.phase_here t refl ∙ e); outcome = inl refl }
  passing (does n d) xs e = record { begun = refl; others = λ u f. refl; fits = inl e; outcome = inl refl }

  -- every refusal is alike
  by_refusal : (x : Action) (xs : List Action) → phase s t ≡ Open → (o : Option Refusal) → After (x ∷ xs) (unless_refused o (unrefused s (next_call t (x ∷ xs))))
  by_refusal x xs e None = passing x xs e
  by_refusal x xs e (Some k) = refuses x xs e k

  opens : (xs : List Action) → phase s t ≡ Open → After xs (answer s (next_call t xs))
  opens [] e = ending e
  opens (x ∷ xs) e = by_refusal x xs e (refusal s (next_call t (x ∷ xs)))

  pub effect : (xs : List Action) → Fits (going xs) (phase s t) → After xs (answer s (next_call t xs))
  effect xs (inl e) = opens xs e
  effect xs (inr (n, ys, q, w)) =
      subst⁻¹ (λ (zs : List Action). After zs (answer s (next_call t zs))) q
      (subst⁻¹ (After (locks n ∷ ys)) (p.again t n w) (locking n ys (holder s n) refl))

-- what holds at each turn of a run of k scripts
pub record Good (rule : Rule) (store : Store) (k : ℕ) (d : Scripted) : Type 0 where
  pub calls : List Call
  pub is : (session rule store calls).state ≡ d.session
  pub begun : d.session.begun ≡ k
  pub long : length d.scripts ≡ k
  pub fits : (t : ℕ) → t < k → Fits (script d t) (phase d.session t)

module _ (rule : Rule) (store : Store) (k : ℕ) where
  pub holding : (d : Scripted) (g : Good rule store k d)
      → Inv store d.session (lockers_of (session rule store g.calls).log) (accesses (session rule store g.calls).log)
  holding d g =
      subst (λ (x : State). Inv store x (lockers_of (session rule store g.calls).log) (accesses (session rule store g.calls).log)) g.is
      (every_run rule store g.calls)

  pub progress : (d : Scripted) → Good rule store k d → Progress d.session
  progress d g = subst Progress g.is (every_session_progresses rule store g.calls)

  -- a turn of a script that is not finished
  pub record Turned (d d' : Scripted) (t : ℕ) : Type 0 where
    pub good : Good rule store k d'
    pub outcome :
        (left d.scripts ≡ left d'.scripts + 1)
        ⊎ ((d'.scripts ≡ d.scripts) × (d'.session.holders ≡ d.session.holders)
        × ((u : ℕ) → (u ≡ t → ⊥) → phase d'.session u ≡ phase d.session u) × Stuck d'.session t)

  moved_size : (xs : List Action) → size (going xs) ≡ size (moved xs) + 1
  moved_size [] = refl
  moved_size (x ∷ xs) = omega arith

  module _ (d : Scripted) (g : Good rule store k d) (t : ℕ) (h : t < k) where
    abbrev s : State
    s = d.session

    abbrev l : List Script
    l = d.scripts

    inside : t < length l
    inside = omega (arith, g.long)

    -- the turn, given its effect
    turned_by : (xs : List Action) (x : Script) (s' : State) (cs : List Call) → script d t ≡ going xs → (session rule store cs).state ≡ s'
        → Effect s s' t xs x → Turned d (record { session = s'; scripts = set l t x }) t
    turned_by xs x s' cs q z e = record {
      good = record {
        calls = cs;
        is = z;
        begun = e.begun ∙ g.begun;
        long = length-set l t x ∙ g.long;
        fits = λ u m. elim (cases_eq u t) [
          | inl v ↦ subst⁻¹ (λ (w : ℕ). Fits (get_or (set l t x) w finished) (phase s' w)) v
              (subst⁻¹ (λ (y : Script). Fits y (phase s' t)) (get_or-set_same l t x finished inside) e.fits)
          | inr f ↦ subst⁻¹ (λ (y : Script). Fits y (phase s' u)) (get_or-set_other l t u x finished f)
              (subst⁻¹ (Fits (script d u)) (e.others u f) (g.fits u m))
        ];
      };
      outcome = elim e.outcome [
        | inl v ↦ inl (omega (arith, left_set l t x inside, ap size q, ap size v, moved_size xs))
        | inr (v, hs, st) ↦ inr (ap (set l t) (v ∙ sym q) ∙ set-get_or l t finished, hs, e.others, st)
      ];
    }

    pub turned : (x : Script) → script d t ≡ x → (x ≡ finished → ⊥) → Turned d (turn_by d t x) t
    turned finished q f = absurd (f refl)
    turned (going xs) q f =
        let i = holding d g in
        let c = next_call t xs in
        turned_by xs (answered xs (answer s c)) (after s c (answer s c)) (g.calls ++ (c ∷ [])) q
        (ap (λ r. r.state) (run_push _ g.calls c) ∙ ap (λ x. after x c (answer x c)) g.is)
        (effect s (progress d g) i.long_records i.few t (omega (arith, g.begun)) xs
        (subst (λ (y : Script). Fits y (phase s t)) q (g.fits t h)))
