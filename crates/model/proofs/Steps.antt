-- Every call keeps what holds of a session.
use Rattle.std.proofs.Common.{◌≡◌, ℕ, ◌<◌, Bool, true, false, cond, ◌&&◌, ltb, leb, List, [], ◌∷◌, ◌++◌, ℤ, pos, ◌+ℤ◌, Some, None, Option, sym, refl, ap, ◌∙◌, subst₂, append_assoc, append-nil, arith}
use mathlib.Core.Path.{fun_ext, subst⁻¹}
use Rattle.std.proofs.lemmas.Bool.{both_ways, leb-false, lt-ltb, not-false, not-true, cond-true, cond-false, cond_both, eq-eqb, ne_eqb}
use Rattle.basics.specs.Sets.{has}
use Rattle.basics.specs.declared.refusal.Refusal.{Refusal}
use Rattle.basics.specs.declared.refusal.Refusal.TheVariants.{NotBegun, AlreadyEnded, NoSuchNode, StillWaiting, NotHeld, AmountOutOfBounds, OutOfRange}
use Rattle.basics.specs.declared.transaction.TransactionNumber.{TransactionNumber}
use Rattle.rules.specs.Rule.{Rule}
use Rattle.stores.specs.Store.{Store, in_range, set_value, put}
use Rattle.model.specs.declared.table.Phase.TheVariants.{Open, Waiting}
use Rattle.model.specs.Calls.{first_refusal, unless_refused, Operation, read, write, adjust, Call, begin, lock, release, access, withdraw, end, Answer, done, waiting, refused, Event}
use Rattle.model.specs.State.{begun_count, State, node, locked, held, holder, count, start}
use Rattle.model.specs.Checks.{begin_checks, lock_checks, use_checks, withdraw_checks, end_checks, operation_checks, result, unrefused, grant_or_wait, answer}
use Rattle.model.specs.Step.{performed, after, with_store, Run, step, run, session}
use Rattle.model.specs.History.{Access, of_operation, accessed, accesses, grants_of, lockers_of}
use Rattle.model.specs.Replay.{written, replay_answer, replayed}
use Rattle.model.proofs.Members.{◌∈◌}
use Rattle.model.proofs.Refusing.{or_else_append, Cases, Passed, refused_cases, alike_cases}
use Rattle.model.proofs.Phases.{not_waiting, same_node}
use Rattle.model.proofs.Inv.{Asking, Inv, start_inv}
use Rattle.model.proofs.Changes.{begun_kept, access_kept, phase_kept, released_kept, ended_kept}
use Rattle.model.proofs.Grants.{granted_inv}

lockers_push : (h : List Event) (e : Event) (n : ℕ) → lockers_of (h ++ (e ∷ [])) n ≡ lockers_of h n ++ grants_of e.call e.answer n
lockers_push [] e n = append-nil _
lockers_push (x ∷ h) e n =
    ap (λ l. grants_of x.call x.answer n ++ l) (lockers_push h e n) ∙ sym (append_assoc (grants_of x.call x.answer n) (lockers_of h n) _)

accesses_push : (h : List Event) (e : Event) → accesses (h ++ (e ∷ [])) ≡ accesses h ++ accessed e.call e.answer
accesses_push [] e = append-nil _
accesses_push (x ∷ h) e =
    ap (λ l. accessed x.call x.answer ++ l) (accesses_push h e) ∙ sym (append_assoc (accessed x.call x.answer) (accesses h) _)

-- below the count a put is a write of the replay
written_put : (s : Store) (n : ℕ) (v : ℤ) → n < s.count → written s n v ≡ put s n v
written_put s n v h = rw (lt-ltb n s.count h) refl

put_count : (s : Store) (n : ℕ) (v : ℤ) → (put s n v).count ≡ s.count
put_count s n v = cond_both (ltb n s.count && in_range s n v) (set_value s n v) s (λ x. x.count ≡ s.count) (λ e. refl) (λ e. refl)

performed_count : (s : Store) (n : ℕ) (d : Operation) → (performed s n d).count ≡ s.count
performed_count s n read = refl
performed_count s n (write v) = put_count s n v
performed_count s n (adjust d) = put_count s n (s.values n +ℤ d)

-- what holds of a run
abbrev pub Holding : Store → Run → Type 0
Holding first r = Inv first r.state (lockers_of r.log) (accesses r.log)

module _ (first : Store) (r : Run) (i : Holding first r) where
  C : ℕ → List ℕ
  C = lockers_of r.log

  A : List Access
  A = accesses r.log

  -- after a call that was answered so
  abbrev Next : Call → Answer → Type 0
  Next c a = Holding first (record { state = after r.state c a; log = r.log ++ (record { call = c; answer = a } ∷ []) })

  -- a call that grants no lock
  logged : (c : Call) (a : Answer) (B : List Access) → ((n : ℕ) → grants_of c a n ≡ []) → accessed c a ≡ B → Inv first (after r.state c a) C (A ++ B) → Next c a
  unfolding C A
  logged c a B none some j =
      let e : Event = record { call = c; answer = a } in
      subst₂ (λ (D : ℕ → List ℕ) (B : List Access). Inv first (after r.state c a) D B)
      (sym (fun_ext (λ n. lockers_push r.log e n ∙ ap (λ l. C n ++ l) (none n) ∙ append-nil (C n))))
      (sym (accesses_push r.log e ∙ ap (λ l. A ++ l) some)) j

  -- nor is an access
  quiet : (c : Call) (a : Answer) → ((n : ℕ) → grants_of c a n ≡ []) → accessed c a ≡ [] → Inv first (after r.state c a) C A → Next c a
  quiet c a none nothing j = logged c a [] none nothing (rw (append-nil A) j)

  here : Inv first r.state C A
  unfolding C A
  here = i

  none_granted : (c : Call) (k : Refusal) (n : ℕ) → grants_of c (refused k) n ≡ []
  none_granted begin k n = refl
  none_granted (lock t m) k n = refl
  none_granted (release t m) k n = refl
  none_granted (access t m d) k n = refl
  none_granted (withdraw t) k n = refl
  none_granted (end t) k n = refl

  refuses : (c : Call) (k : Refusal) → accessed c (refused k) ≡ [] → Next c (refused k)
  refuses c k e = quiet c (refused k) (none_granted c k) e here

  -- a call other than an access is refused or not
  unless_any : (c : Call) (cs : List (Bool × Refusal)) → ((k : Refusal) → accessed c (refused k) ≡ [])
      → (Passed cs → Next c (unrefused r.state c)) → Next c (unless_refused (first_refusal cs) (unrefused r.state c))
  unless_any c cs e f = refused_cases (Next c) cs (unrefused r.state c) (alike_cases (Next c) cs (unrefused r.state c) (λ k. refuses c k (e k)) f)

  begins : Next begin (answer r.state begin)
  begins = unless_any begin (begin_checks r.state) (λ k. refl) (λ p. quiet begin _ (λ n. refl) refl (begun_kept first r.state C A here (leb-false 32 _ p.0)))

  module _ (t : ℕ) where
    is_begun : leb (begun_count r.state) t ≡ false → t < r.state.begun
    is_begun e = omega (arith, leb-false (begun_count r.state) t e)

    withdraws : Next (withdraw t) (answer r.state (withdraw t))
    withdraws = unless_any (withdraw t) (withdraw_checks r.state t) (λ k. refl) (λ p. quiet (withdraw t) _ (λ n. refl) refl
        (phase_kept first r.state C A here t (is_begun p.0) Open (λ n w. absurd (not_waiting Open (node n) refl w)) refl))

    ends : Next (end t) (answer r.state (end t))
    ends = unless_any (end t) (end_checks r.state t) (λ k. refl) (λ p. quiet (end t) _ (λ n. refl) refl (ended_kept first r.state C A here t (is_begun p.0)))

    module _ (n : ℕ) where
      few : leb (count r.state) n ≡ false → n < 64
      few e = omega (arith, leb-false (count r.state) n e, r.state.rule.few)

      releases : Next (release t n) (answer r.state (release t n))
      releases = unless_any (release t n) (use_checks r.state t n) (λ k. refl) (λ p. quiet (release t n) _ (λ m. refl) refl
          (released_kept first r.state C A here t (is_begun p.0) n (few p.1.1.0)
          (not-false _ p.1.1.1.1.0) p.1.1.1.0 p.1.0))

      module _ (h : n ∈ held r.state t) (c : n < r.state.store.count) where
        notes : (d : Operation) (a : Answer) (store : Store) → accessed (access t n d) a ≡ record { by = t; node = n; operation = d; answer = a } ∷ []
            → after r.state (access t n d) a ≡ with_store r.state store → replay_answer r.state.store n d ≡ a
            → replayed r.state.store n d ≡ store → store.count ≡ r.state.store.count → Next (access t n d) a
        notes d a store b q e z same = logged (access t n d) a _ (λ m. refl) b
            (subst⁻¹ (λ (x : State). Inv first x C (A ++ (record { by = t; node = n; operation = d; answer = a } ∷ []))) q
            (access_kept first r.state C A here t n d a store h e z same))

        does : (d : Operation) → replay_answer r.state.store n d ≡ done (result r.state.store n d)
            → replayed r.state.store n d ≡ performed r.state.store n d → Next (access t n d) (done (result r.state.store n d))
        does d e z = notes d (done (result r.state.store n d)) (performed r.state.store n d) refl refl e z (performed_count r.state.store n d)

        misses : (d : Operation) (k : Refusal) → of_operation k ≡ true → replay_answer r.state.store n d ≡ refused k
            → replayed r.state.store n d ≡ r.state.store → Next (access t n d) (refused k)
        misses d k b e z = notes d (refused k) r.state.store
            (ap (λ b. cond b (record { by = t; node = n; operation = d; answer = refused k } ∷ []) []) b) refl e z refl

        operations : (d : Operation) → Cases (Next (access t n d)) (operation_checks r.state.store n d) (done (result r.state.store n d))
        operations read = does read refl refl
        operations (write v) = (
          λ e. misses (write v) OutOfRange refl (cond-false _ _ _ (not-true _ e)) (cond-false _ _ _ (not-true _ e)),
          λ e. does (write v) (cond-true _ _ _ (not-false _ e)) (written_put r.state.store n v c),
        )
        operations (adjust d) = (
          λ e. misses (adjust d) AmountOutOfBounds refl (cond-false _ _ _ (not-true _ e)) (cond-false _ _ _ (not-true _ e)),
          λ a. (
            λ e. misses (adjust d) OutOfRange refl
                (cond-true _ _ _ (not-false _ a) ∙ cond-false _ _ _ (not-true _ e))
                (cond-true _ _ _ (not-false _ a) ∙ cond-false _ _ _ (not-true _ e)),
            λ e. does (adjust d)
                (cond-true _ _ _ (not-false _ a) ∙ cond-true _ _ _ (not-false _ e))
                (cond-true _ _ _ (not-false _ a) ∙ written_put r.state.store n (r.state.store.values n +ℤ d) c),
          ),
        )

      accesses_node : (d : Operation) → Next (access t n d) (answer r.state (access t n d))
      accesses_node d =
          let no : (k : Refusal) → accessed (access t n d) (refused k) ≡ [] → Next (access t n d) (refused k) = refuses (access t n d) in
          rw (or_else_append (use_checks r.state t n) (operation_checks r.state.store n d))
          (refused_cases (Next (access t n d)) (use_checks r.state t n ++ operation_checks r.state.store n d) (unrefused r.state (access t n d)) (
            λ e. no NotBegun refl,
            λ e. (
              λ e. no AlreadyEnded refl,
              λ e. (
                λ e. no NoSuchNode refl,
                λ few. (
                  λ e. no StillWaiting refl,
                  λ e. (
                    λ e. no NotHeld refl,
                    λ holds.
                        operations (not-false _ holds) (omega (arith, leb-false (count r.state) n few)) d,
                  ),
                ),
              ),
            ),
          ))

      locking : t < r.state.begun → n < 64 → Asking r.state t n → (o : Option TransactionNumber) → holder r.state n ≡ o → Next (lock t n) (grant_or_wait o)
      unfolding C A
      locking l below asking None e =
          let ev : Event = record { call = lock t n; answer = done (pos 0) } in
          subst⁻¹ (λ (B : List Access). Inv first (after r.state (lock t n) (done (pos 0))) (lockers_of (r.log ++ (ev ∷ []))) B)
          (accesses_push r.log ev ∙ append-nil A)
          (granted_inv first r.state C (lockers_of (r.log ++ (ev ∷ []))) A here t n l below asking e
          (lockers_push r.log ev n ∙ ap (λ b. C n ++ cond b (t ∷ []) []) (eq-eqb n n refl))
          (λ m f. lockers_push r.log ev m ∙ ap (λ b. C m ++ cond b (t ∷ []) []) (ne_eqb n m (λ q. f (sym q))) ∙ append-nil (C m)))
      locking l below asking (Some u) e =
          quiet (lock t n) (waiting u.0) (λ m. refl) refl
          (phase_kept first r.state C A here t l (Waiting (node n))
          (λ m w. let q : n ≡ m = same_node (Waiting (node n)) n m refl w in rw (← q) (asking.1, asking.2, asking.3)) refl)

      locks : Next (lock t n) (answer r.state (lock t n))
      locks = unless_any (lock t n) (lock_checks r.state t n) (λ k. refl) (λ p.
          let l : t < r.state.begun = is_begun p.0 in
          locking l (few p.1.1.0)
          (l, both_ways (has (locked r.state t) n) p.1.1.1.1.0, not-false _ p.1.1.1.1.1.0, leb-false _ n p.1.1.0)
          (holder r.state n) refl)

pub step_holds : (first : Store) (r : Run) → Holding first r → (c : Call) → Holding first (step r c)
step_holds first r i begin = begins first r i
step_holds first r i (lock t n) = locks first r i t n
step_holds first r i (release t n) = releases first r i t n
step_holds first r i (access t n d) = accesses_node first r i t n d
step_holds first r i (withdraw t) = withdraws first r i t
step_holds first r i (end t) = ends first r i t

pub run_holds : (first : Store) (cs : List Call) (r : Run) → Holding first r → Holding first (run r cs)
run_holds first [] r i = i
run_holds first (c ∷ cs) r i = run_holds first cs (step r c) (step_holds first r i c)

pub every_run : (rule : Rule) (store : Store) (cs : List Call) → Holding store (session rule store cs)
every_run rule store cs = run_holds store cs (record { state = start rule store; log = [] }) (start_inv rule store)
