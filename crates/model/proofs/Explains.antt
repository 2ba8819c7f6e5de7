-- What holds of a session explains it.
use Rattle.std.proofs.Common.{◌≡◌, ℕ, ◌<◌, ◌&&◌, eqb, ltb, ◌⊎◌, ◌↔◌, List, ◌∷◌, Some, None, Option, sym, refl, ap, ◌∙◌, inl, inr, arith}
use lib.Bits.{bit_or}
use Rattle.std.proofs.lemmas.Bool.{or_cases, and_parts, eqb-true, cases_Bool, both_ways, lt-ltb, cond-true, cond-false}
use Rattle.basics.proofs.Masks.{no_member, or_members, with_members, has_with, has_empty}
use Rattle.basics.specs.Sets.{has}
use Rattle.basics.specs.declared.transaction.TransactionNumber.{TransactionNumber}
use Rattle.stores.specs.Store.{Store}
use Rattle.model.specs.declared.table.Phase.{Phase}
use Rattle.model.specs.declared.table.Phase.TheVariants.{Open, Waiting, Ended}
use Rattle.model.specs.Lists.{In, Before}
use Rattle.model.specs.Calls.{Event}
use Rattle.model.specs.State.{begun_count, State, earlier_than, node, transaction, phase, locked, holder, Waits, Holds}
use Rattle.model.specs.Step.{session}
use Rattle.model.specs.Order.{holder_set, waited_for, predecessors, serial_order}
use Rattle.model.specs.History.{accesses, lockers_of}
use Rattle.model.specs.Replay.{serial}
use Rattle.model.specs.Explained.{Precedes, Explained, EverySessionExplained}
use Rattle.model.proofs.Standings.{Told, every_run_told}
use Rattle.model.proofs.Lists.{before_left, before_right, before_trans, before_irrefl}
use Rattle.model.proofs.Members.{◌∈◌, lacks}
use Rattle.model.proofs.Traces.{at_node, same_by_one}
use Rattle.model.proofs.Views.{View}
use Rattle.model.proofs.Locking.{held_locked}
use Rattle.model.proofs.Queues.{minimal_of_all}
use Rattle.model.proofs.Placing.{Placed, all_placed}
use Rattle.model.proofs.Replays.{right_answers, right_over, values_over}
use Rattle.model.proofs.Phases.{same_node, not_waiting}
use Rattle.model.proofs.Inv.{all_begun, view, Inv}
use Rattle.model.proofs.Steps.{every_run}
use Rattle.model.proofs.Waiters.{waiters, want, waiters_wait, is_waiter, wants, waiters_distinct}

holder_set_is : (o : Option TransactionNumber) (u : ℕ) → u ∈ holder_set o → o ≡ Some (transaction u)
holder_set_is None u b = absurd (no_member u b)
holder_set_is (Some v) u b = elim (or_cases (has 0 u) (eqb u v.0 && ltb u 32) (sym (has_with 32 0 v.0 u) ∙ b)) [
  | inl c ↦ absurd (no_member u c)
  | inr c ↦ ap (λ x. Some (transaction x)) (sym (eqb-true u v.0 (and_parts (eqb u v.0) (ltb u 32) c).0))
]

in_holder_set : (o : Option TransactionNumber) (u : ℕ) → u < 32 → o ≡ Some (transaction u) → u ∈ holder_set o
in_holder_set o u l e = rw e ((with_members 32 0 u u l).1 (inr refl))

-- the same as `Precedes`, in the words of the tables
abbrev Ahead : List Event → State → ℕ → ℕ → Type 0
Ahead h s u t = (u ≡ t → ⊥) × (((n : ℕ) × Before u t (lockers_of h n)) ⊎ ((n : ℕ) × Waits s t n × Holds s u n))

ahead_told : (h : List Event) (s : State) → Told (record { state = s; log = h }) → (u t : ℕ) → Ahead h s u t ↔ Precedes h u t
ahead_told h s told u t = (
  λ (f, p). (f, elim p [ inl c ↦ inl c | inr (n, w, e) ↦ inr (n, sym (told.phases t) ∙ w, sym (told.holders n) ∙ e) ]),
  λ (f, p). (f, elim p [ inl c ↦ inl c | inr (n, w, e) ↦ inr (n, told.phases t ∙ w, told.holders n ∙ e) ]),
)

module _ (first : Store) (h : List Event) (s : State) (i : Inv first s (lockers_of h) (accesses h)) where
  abbrev v : View
  v = view s (lockers_of h) i.entry (accesses h)

  holder_locked : (n u : ℕ) → Holds s u n → n ∈ locked s u
  holder_locked n u e = held_locked s.rule v i.kept u n ((i.holder_is n u).0 e)

  pub holder_begun : (n u : ℕ) → Holds s u n → u < s.begun
  holder_begun n u e = i.begun_is n u ((i.kept.locked_is n u).0 (holder_locked n u e))

  waited_for_is : (p : Phase) (u : ℕ) → (u ∈ waited_for s p) ↔ ((n : ℕ) × (p ≡ Waiting (node n)) × Holds s u n)
  waited_for_is Open u = (λ b. absurd (no_member u b), λ (n, w, e). absurd (not_waiting Open (node n) refl w))
  waited_for_is (Waiting m) u = (
    λ b. (m.0, refl, holder_set_is (holder s m.0) u b),
    λ (n, w, e). in_holder_set (holder s m.0) u (omega (arith, holder_begun n u e, i.few)) (ap (holder s) (same_node (Waiting m) m.0 n refl w) ∙ e),
  )
  waited_for_is Ended u = (λ b. absurd (no_member u b), λ (n, w, e). absurd (not_waiting Ended (node n) refl w))

  waiting_apart : (t n u : ℕ) → Waits s t n → Holds s u n → u ≡ t → ⊥
  waiting_apart t n u w e q = (i.asks t n w).1 (rw q at (holder_locked n u e))

  lockers_apart : (n u t : ℕ) → Before u t (lockers_of h n) → u ≡ t → ⊥
  lockers_apart n u t b q = before_irrefl (lockers_of h n) t (i.kept.descending.distinct n) (rw q at b)

  precedes_begun : (u t : ℕ) → Ahead h s u t → (u < s.begun) × (t < s.begun)
  precedes_begun u t p = elim p.1 [
    | inl (n, b) ↦ (i.begun_is n u (before_left _ u t b), i.begun_is n t (before_right _ u t b))
    | inr (n, w, e) ↦ (holder_begun n u e, (i.asks t n w).0)
  ]

  reported : (u t : ℕ) → (u ∈ bit_or (earlier_than s t) (waited_for s (phase s t))) ↔ Ahead h s u t
  reported u t = (
    λ b. elim ((or_members (earlier_than s t) (waited_for s (phase s t)) u).0 b) [
      | inl c ↦ let (n, d) = (i.earlier_is t u).0 c in (lockers_apart n u t d, inl (n, d))
      | inr c ↦ let (n, w, e) = (waited_for_is (phase s t) u).0 c in (waiting_apart t n u w e, inr (n, w, e))
    ],
    λ p. (or_members (earlier_than s t) (waited_for s (phase s t)) u).1 (elim p.1 [
      | inl c ↦ inl ((i.earlier_is t u).1 c)
      | inr c ↦ inr ((waited_for_is (phase s t) u).1 c)
    ]),
  )

  report : (u t : ℕ) → (u ∈ predecessors s t) ↔ Ahead h s u t
  report u t = elim (cases_Bool (ltb t (begun_count s))) [
    | inl e ↦ rw (cond-true (ltb t (begun_count s)) (bit_or (earlier_than s t) (waited_for s (phase s t))) 0 e) (reported u t)
    | inr e ↦ rw (cond-false (ltb t (begun_count s)) (bit_or (earlier_than s t) (waited_for s (phase s t))) 0 e) (
      λ b. absurd (no_member u b),
      λ p. absurd (both_ways (ltb t (begun_count s)) e (lt-ltb t (begun_count s) (omega (arith, i.few, (precedes_begun u t p).1)))),
    )
  ]

  -- of any transactions, one whose predecessors are none of them
  least : (x : ℕ) (xs : List ℕ) → (w : ℕ) × In w (x ∷ xs) × ((u : ℕ) → In u (x ∷ xs) → u ∈ predecessors s w → ⊥)
  least x xs =
      let (w, j, locker, waiting) = minimal_of_all s.rule v i.kept (waiters s) (want s) (λ t j. (i.asks t (want s t) (waiters_wait s t j)).2) (waiters_distinct s)
      (λ t j k. (i.asks t (want s t) (waiters_wait s t j)).1 ((i.kept.locked_is (want s t) t).1 k)) x xs in (
        w,
        j,
        λ u k b. elim ((report u w).0 b).1 [
          | inl (n, c) ↦ locker u n k c
          | inr (n, c, e) ↦ waiting u k (is_waiter s w n (i.asks w n c).0 c) (rw (wants s w n c) ((i.holder_is n u).0 e))
        ],
      )

  placed : Placed (predecessors s) s.begun 0 (serial_order s)
  placed = rw (all_begun s i.few) (all_placed (predecessors s) s.begun i.few (λ u t b. (precedes_begun u t ((report u t).0 b)).0) least)

  follows : (u t : ℕ) → Ahead h s u t → Before u t (serial_order s)
  follows u t p =
      let j : In t (serial_order s) = placed.all t (precedes_begun u t p).1 (no_member t) in
      elim (placed.after u t j ((report u t).1 p)) [ inl b ↦ absurd (no_member u b) | inr b ↦ b ]

  -- at each node the serial order has the same accesses, in the same order
  same : (n : ℕ) → at_node n (serial (serial_order s) (accesses h)) ≡ at_node n (accesses h)
  same n = same_by_one (lockers_of h) (accesses h) i.kept.traced (serial_order s) n placed.once (i.kept.descending.distinct n)
      (λ u j. placed.all u (i.begun_is n u j) (no_member u))
      (λ u w b c. before_irrefl (serial_order s) w placed.once
      (before_trans (serial_order s) w u w placed.once b (follows u w (lockers_apart n u w c, inl (n, c)))))

  pub explained : Told (record { state = s; log = h }) → Explained first h s (serial_order s)
  explained told = record {
    once = placed.once;
    all = λ t. (λ j. (placed.fresh t j).0, λ l. placed.all t l (no_member t));
    whole = i.owned;
    answers = right_answers (serial (serial_order s) (accesses h)) first (right_over first (accesses h) (serial (serial_order s) (accesses h)) same i.right);
    values = λ n. values_over first (accesses h) (serial (serial_order s) (accesses h)) same n ∙ ap (λ x. x.values n) i.same_store;
    waits = λ t n u w e. follows u t (waiting_apart t n u w e, inr (n, w, e));
    follows = λ u t p. follows u t ((ahead_told h s told u t).1 p);
    report = λ u t. (λ b. (ahead_told h s told u t).0 ((report u t).0 b), λ p. (report u t).1 ((ahead_told h s told u t).1 p));
    none = λ t l. has_empty (predecessors s t) (λ u. lacks (predecessors s t) u (λ b. omega (arith, l, (precedes_begun u t ((report u t).0 b)).1)));
  }

pub every_session_explained : EverySessionExplained
every_session_explained rule store cs = explained store (session rule store cs).log (session rule store cs).state (every_run rule store cs) (every_run_told rule store cs)
