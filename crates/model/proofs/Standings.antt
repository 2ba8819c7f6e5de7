-- The phases, the holders and the count of a session are those that its history tells.
use Rattle.std.proofs.Common.{◌≡◌, ℕ, zero, suc, ◌+◌, ◌<◌, Bool, false, cond, eqb, leb, List, [], ◌∷◌, ◌++◌, map, length, get_or, set, pos, Some, None, Option, sym, refl, ap, ◌∙◌, arith, get_or-set_other}
use Rattle.std.proofs.lemmas.Bool.Decides.{nat_tests}
use Rattle.std.proofs.lemmas.Grind.{get_or-set_at}
use Rattle.std.proofs.lemmas.Bool.{leb-false}
use Rattle.basics.specs.declared.refusal.Refusal.{Refusal}
use Rattle.rules.specs.Rule.{Rule}
use Rattle.basics.specs.declared.transaction.TransactionNumber.{TransactionNumber}
use Rattle.stores.specs.Store.{Store}
use Rattle.model.specs.declared.table.Phase.{Phase}
use Rattle.model.specs.declared.table.Phase.TheVariants.{Open}
use Rattle.model.specs.declared.table.Record.{Record}
use Rattle.model.specs.Calls.{Call, begin, lock, release, access, withdraw, end, Answer, done, waiting, refused, Event, first_refusal, unless_refused}
use Rattle.model.specs.Checks.{lock_checks, use_checks, withdraw_checks, end_checks, begin_checks, grant_or_wait, answer}
use Rattle.model.specs.State.{State, transaction, blank, phase, holder, count, begun_count, start}
use Rattle.model.specs.Step.{after, when_done, when_waiting, freed, Run, step, run, session}
use Rattle.model.specs.Standing.{phase_after, phase_told, phase_in, holder_without, holder_after, holder_told, holder_in, begins, begun_in}
use Rattle.model.proofs.Inv.{get_or-replicated, start_inv}
use Rattle.model.proofs.Steps.{Holding, step_holds}
use Rattle.model.proofs.Refusing.{Passed, refused_cases, alike_cases}

cond_same : {X : Type 0} (b : Bool) (x : X) → cond b x x ≡ x
cond_same b x = grind arith

-- one element of a list is replaced
at_set : {X : Type 0} (xs : List X) (i k : ℕ) (x d : X) → i < length xs → get_or (set xs i x) k d ≡ cond (eqb k i) x (get_or xs k d)
at_set xs i k x d l = grind (arith, nat_tests, get_or-set_at, get_or-set_other)

phase_set : (rs : List Record) (u t : ℕ) (r : Record) → u < length rs → (get_or (set rs u r) t blank).phase ≡ cond (eqb t u) r.phase (get_or rs t blank).phase
phase_set rs u t r l = let e = ap (λ x. x.phase) (at_set rs u t r blank l) in grind (arith, nat_tests)

-- a record that keeps its phase
phase_same : (rs : List Record) (u t : ℕ) (r : Record) → u < length rs → r.phase ≡ (get_or rs u blank).phase → (get_or (set rs u r) t blank).phase ≡ (get_or rs t blank).phase
phase_same rs u t r l e = let set = phase_set rs u t r l in grind (arith, nat_tests)

freed_map : (u : ℕ) (hs : List (Option TransactionNumber)) (n : ℕ) → get_or (map (freed u) hs) n None ≡ holder_without u (get_or hs n None)
freed_map u [] n = refl
freed_map u (None ∷ hs) zero = refl
freed_map u (Some v ∷ hs) zero = refl
freed_map u (o ∷ hs) (suc n) = freed_map u hs n

known : (s : State) (u : ℕ) → length s.records ≡ 32 → leb (begun_count s) u ≡ false → u < length s.records
known s u long h = omega (arith, leb-false (begun_count s) u h)

node_known : (s : State) (n : ℕ) → length s.holders ≡ 64 → leb (count s) n ≡ false → n < length s.holders
node_known s n long h = omega (arith, leb-false (count s) n h, s.rule.few)

refusing : (P : Answer → Type 0) (cs : List (Bool × Refusal)) (a : Answer) → ((k : Refusal) → P (refused k)) → (Passed cs → P a) → P (unless_refused (first_refusal cs) a)
refusing P cs a r f = refused_cases P cs a (alike_cases P cs a r f)

abbrev PhaseKept : State → Call → ℕ → Answer → Type 0
PhaseKept s c t a = phase (after s c a) t ≡ phase_after (phase s t) c a t

phase_step : (s : State) → length s.records ≡ 32 → (c : Call) (t : ℕ) → PhaseKept s c t (answer s c)
phase_step s long begin t = refusing (PhaseKept s begin t) (begin_checks s) (done (pos s.begun)) (λ k. refl) (λ p. refl)
phase_step s long (lock u n) t =
    refusing (PhaseKept s (lock u n) t) (lock_checks s u n) (grant_or_wait (holder s n)) (λ k. sym (cond_same (eqb t u) (phase s t))) (λ p. by_holder (known s u long p.0) (holder s n))
  where
    by_holder : u < length s.records → (o : Option TransactionNumber) → PhaseKept s (lock u n) t (grant_or_wait o)
    by_holder l None = phase_set s.records u t _ l
    by_holder l (Some v) = phase_set s.records u t _ l
phase_step s long (release u n) t =
    refusing (PhaseKept s (release u n) t) (use_checks s u n) (done (pos 0)) (λ k. refl) (λ p. phase_same s.records u t _ (known s u long p.0) refl)
phase_step s long (access u n op) t = any (answer s (access u n op))
  where
    any : (a : Answer) → PhaseKept s (access u n op) t a
    any (done x) = refl
    any (waiting v) = refl
    any (refused k) = refl
phase_step s long (withdraw u) t =
    refusing (PhaseKept s (withdraw u) t) (withdraw_checks s u) (done (pos 0)) (λ k. sym (cond_same (eqb t u) (phase s t))) (λ p. phase_set s.records u t _ (known s u long p.0))
phase_step s long (end u) t =
    refusing (PhaseKept s (end u) t) (end_checks s u) (done (pos 0)) (λ k. sym (cond_same (eqb t u) (phase s t))) (λ p. phase_set s.records u t _ (known s u long p.0))

abbrev HolderKept : State → Call → ℕ → Answer → Type 0
HolderKept s c n a = holder (after s c a) n ≡ holder_after (holder s n) c a n

holder_step : (s : State) → length s.holders ≡ 64 → (c : Call) (n : ℕ) → HolderKept s c n (answer s c)
holder_step s long begin n = refusing (HolderKept s begin n) (begin_checks s) (done (pos s.begun)) (λ k. refl) (λ p. refl)
holder_step s long (lock u m) n =
    refusing (HolderKept s (lock u m) n) (lock_checks s u m) (grant_or_wait (holder s m)) (λ k. sym (cond_same (eqb n m) (holder s n))) (λ p. by_holder (node_known s m long p.1.1.0) (holder s m))
  where
    by_holder : m < length s.holders → (o : Option TransactionNumber) → HolderKept s (lock u m) n (grant_or_wait o)
    by_holder l None = at_set s.holders m n (Some (transaction u)) None l
    by_holder l (Some v) = sym (cond_same (eqb n m) (holder s n))
holder_step s long (release u m) n =
    refusing (HolderKept s (release u m) n) (use_checks s u m) (done (pos 0)) (λ k. sym (cond_same (eqb n m) (holder s n))) (λ p. at_set s.holders m n None None (node_known s m long p.1.1.0))
holder_step s long (access u m op) n = any (answer s (access u m op))
  where
    any : (a : Answer) → HolderKept s (access u m op) n a
    any (done x) = refl
    any (waiting v) = refl
    any (refused k) = refl
holder_step s long (withdraw u) n = refusing (HolderKept s (withdraw u) n) (withdraw_checks s u) (done (pos 0)) (λ k. refl) (λ p. refl)
holder_step s long (end u) n = refusing (HolderKept s (end u) n) (end_checks s u) (done (pos 0)) (λ k. refl) (λ p. freed_map u s.holders n)

abbrev BegunKept : State → Call → Answer → Type 0
BegunKept s c a = (after s c a).begun ≡ s.begun + begins c a

-- a call other than a begin
none_begun : (s : State) (c : Call) (a : Answer) → (when_done s c).begun ≡ s.begun → (when_waiting s c).begun ≡ s.begun → (after s c a).begun ≡ s.begun
none_begun s c (done x) d w = d
none_begun s c (waiting v) d w = w
none_begun s c (refused k) d w = refl

begun_step : (s : State) (c : Call) → BegunKept s c (answer s c)
begun_step s begin = refusing (BegunKept s begin) (begin_checks s) (done (pos s.begun)) (λ k. omega arith) (λ p. refl)
begun_step s (lock u m) = omega (arith, none_begun s (lock u m) (answer s (lock u m)) refl refl)
begun_step s (release u m) = omega (arith, none_begun s (release u m) (answer s (release u m)) refl refl)
begun_step s (access u m op) = omega (arith, none_begun s (access u m op) (answer s (access u m op)) refl refl)
begun_step s (withdraw u) = omega (arith, none_begun s (withdraw u) (answer s (withdraw u)) refl refl)
begun_step s (end u) = omega (arith, none_begun s (end u) (answer s (end u)) refl refl)

-- one more event
phase_push : (p : Phase) (h : List Event) (e : Event) (t : ℕ) → phase_told p (h ++ (e ∷ [])) t ≡ phase_after (phase_told p h t) e.call e.answer t
phase_push p [] e t = refl
phase_push p (d ∷ h) e t = phase_push (phase_after p d.call d.answer t) h e t

holder_push : (o : Option TransactionNumber) (h : List Event) (e : Event) (n : ℕ) → holder_told o (h ++ (e ∷ [])) n ≡ holder_after (holder_told o h n) e.call e.answer n
holder_push o [] e n = refl
holder_push o (d ∷ h) e n = holder_push (holder_after o d.call d.answer n) h e n

begun_push : (h : List Event) (e : Event) → begun_in (h ++ (e ∷ [])) ≡ begun_in h + begins e.call e.answer
begun_push [] e = omega arith
begun_push (d ∷ h) e = omega (arith, begun_push h e)

-- what the history tells is what the session has
pub record Told (r : Run) : Type 0 where
  pub phases : (t : ℕ) → phase r.state t ≡ phase_in r.log t
  pub holders : (n : ℕ) → holder r.state n ≡ holder_in r.log n
  pub begun : r.state.begun ≡ begun_in r.log

told_step : (first : Store) (r : Run) → Holding first r → Told r → (c : Call) → Told (step r c)
told_step first r here told c =
    let e : Event = record { call = c; answer = answer r.state c } in
    record {
      phases = λ t. phase_step r.state here.long_records c t ∙ ap (λ p. phase_after p c (answer r.state c) t) (told.phases t) ∙ sym (phase_push Open r.log e t);
      holders = λ n. holder_step r.state here.long_holders c n ∙ ap (λ o. holder_after o c (answer r.state c) n) (told.holders n) ∙ sym (holder_push None r.log e n);
      begun = begun_step r.state c ∙ ap (λ k. k + begins c (answer r.state c)) told.begun ∙ sym (begun_push r.log e);
    }

told_run : (first : Store) (cs : List Call) (r : Run) → Holding first r → Told r → Told (run r cs)
told_run first [] r here told = told
told_run first (c ∷ cs) r here told = told_run first cs (step r c) (step_holds first r here c) (told_step first r here told c)

pub every_run_told : (rule : Rule) (store : Store) (cs : List Call) → Told (session rule store cs)
every_run_told rule store cs =
    told_run store cs (record { state = start rule store; log = [] }) (start_inv rule store) (record { phases = λ t. ap (λ x. x.phase) (get_or-replicated 32 t blank); holders = λ n. get_or-replicated 64 n None; begun = refl })
