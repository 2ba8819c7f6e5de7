-- Calls that grant no lock keep what holds of a session.
use Rattle.std.proofs.Common.{◌≡◌, ℕ, ◌+◌, ◌^◌, ◌<◌, false, ◌↔◌, List, [], ◌∷◌, ◌++◌, map, length, set, Some, None, Option, sym, refl, ap, ◌∙◌, inl, inr, arith, length-set, get_or-set_other, get_or-set_same}
use lib.ListN.{get_or-map}
use Rattle.std.proofs.lemmas.List.{length-map}
use Rattle.std.proofs.lemmas.Bool.{cases_eq, eq-eqb, ne_eqb}
use Rattle.basics.proofs.Masks.{no_member, without_members, without_lt}
use Rattle.basics.specs.Sets.{without_member}
use Rattle.basics.specs.declared.transaction.TransactionNumber.{TransactionNumber}
use Rattle.stores.specs.Store.{Store}
use Rattle.model.specs.declared.table.Phase.{Phase}
use Rattle.model.specs.declared.table.Phase.TheVariants.{Waiting, Ended}
use Rattle.model.specs.declared.table.Record.{Record}
use Rattle.model.specs.Calls.{Operation, Answer}
use Rattle.model.specs.State.{State, nodes, node, transaction, phase, locked, held, holder, count, Holds}
use Rattle.model.specs.Checks.{is_ended, is_waiting}
use Rattle.model.specs.Step.{one_more_begun, changed, with_phase, released, freed, ended, with_store}
use Rattle.model.specs.History.{Access}
use Rattle.model.specs.Replay.{replay_answer, replayed, Below}
use Rattle.model.proofs.Members.{◌∈◌, Within}
use Rattle.model.proofs.Traces.{traced_access}
use Rattle.model.proofs.Views.{May}
use Rattle.model.proofs.Locking.{held_locked, same_kept}
use Rattle.model.proofs.Replays.{right_push, replay_push}
use Rattle.model.proofs.Phases.{none_some, same_holder, not_waiting, not_ended}
use Rattle.model.proofs.Records.{Replaced, replaced}
use Rattle.model.proofs.Inv.{view, Inv}

below_more : (A : List Access) (k : ℕ) → Below k A → Below (k + 1) A
below_more [] k b = tt
below_more (a ∷ A) k b = (omega (arith, b.0), below_more A k b.1)

below_push : (A : List Access) (a : Access) (k : ℕ) → Below k A → a.by < k → Below k (A ++ (a ∷ []))
below_push [] a k b l = (l, tt)
below_push (x ∷ A) a k b l = (b.0, below_push A a k b.1 l)

module _ (first : Store) (s : State) (C : ℕ → List ℕ) (A : List Access) (i : Inv first s C A) where
  pub begun_kept : s.begun < 32 → Inv first (one_more_begun s) C A
  begun_kept h = record {
    entry = i.entry;
    kept = i.kept;
    few = omega arith;
    long_records = i.long_records;
    long_holders = i.long_holders;
    long_lockers = i.long_lockers;
    long_earlier = i.long_earlier;
    small = i.small;
    holder_is = i.holder_is;
    lockers_is = i.lockers_is;
    earlier_is = i.earlier_is;
    begun_is = λ n t j. omega (arith, i.begun_is n t j);
    asks = λ t n w. let (b, f, m, c) = i.asks t n w in (omega (arith, b), f, m, c);
    spent = i.spent;
    owned = below_more A s.begun i.owned;
    right = i.right;
    same_store = i.same_store;
  }

  -- an access of a node by its holder, as in the replay
  pub access_kept : (t n : ℕ) (d : Operation) (a : Answer) (store : Store) → n ∈ held s t
      → replay_answer s.store n d ≡ a → replayed s.store n d ≡ store → store.count ≡ s.store.count
      → Inv first (with_store s store) C (A ++ (record { by = t; node = n; operation = d; answer = a } ∷ []))
  access_kept t n d a store h e z c =
      let x : Access = record { by = t; node = n; operation = d; answer = a } in
      let (xs, q) = i.kept.held_last n t h in
      record {
        entry = i.entry;
        kept = same_kept s.rule (view s C i.entry A) i.kept _
            (record { lockers = λ m. refl; entry = λ u. refl; locked = λ u. refl })
            (λ m u b. b)
            (traced_access C A i.kept.traced x xs q (i.kept.descending.distinct n));
        few = i.few;
        long_records = i.long_records;
        long_holders = i.long_holders;
        long_lockers = i.long_lockers;
        long_earlier = i.long_earlier;
        small = i.small;
        holder_is = i.holder_is;
        lockers_is = i.lockers_is;
        earlier_is = i.earlier_is;
        begun_is = i.begun_is;
        asks = λ u m w. rw c (i.asks u m w);
        spent = i.spent;
        owned = below_push A x s.begun i.owned (i.begun_is n t ((i.kept.locked_is n t).0 (held_locked s.rule (view s C i.entry A) i.kept t n h)));
        right = right_push A x first i.right (ap (λ z. replay_answer z n d) i.same_store ∙ e);
        same_store = replay_push A x first ∙ ap (λ x. replayed x n d) i.same_store ∙ z;
      }

  module _ (t : ℕ) (l : t < s.begun) where
    -- the record of t is replaced by r
    module _ (r : Record) (hs : List (Option TransactionNumber)) where
      new : Replaced s (changed s t r hs) t r
      new = replaced s (changed s t r hs) t r (omega (arith, l, i.few, i.long_records)) refl

      module _ (same : r.locked.mask ≡ locked s t) (less : Within r.held.mask (held s t)) where
        same_locked : (u : ℕ) → locked (changed s t r hs) u ≡ locked s u
        same_locked u = elim (cases_eq u t) [
          | inl q ↦ new.locked_here u q ∙ same ∙ ap (locked s) (sym q)
          | inr f ↦ new.locked_there u f
        ]

        less_held : (u : ℕ) → Within (held (changed s t r hs) u) (held s u)
        less_held u m b = elim (cases_eq u t) [
          | inl q ↦ rw q (less m (rw (new.held_here u q) at b))
          | inr f ↦ rw (new.held_there u f) at b
        ]

        changed_kept : length hs ≡ 64 → r.held.mask < 2 ^ 64
            → ((m u : ℕ) → Holds (changed s t r hs) u m ↔ (m ∈ held (changed s t r hs) u))
            → ((m : ℕ) → r.phase ≡ Waiting (node m) → (m ∈ locked s t → ⊥) × May s.rule m (locked s t) r.held.mask × (m < count s))
            → (r.phase ≡ Ended → r.held.mask ≡ 0)
            → Inv first (changed s t r hs) C A
        changed_kept long small holds asks spent = record {
          entry = i.entry;
          kept = same_kept s.rule (view s C i.entry A) i.kept _
              (record { lockers = λ m. refl; entry = λ u. refl; locked = same_locked })
              (λ m u b. less_held u m b)
              i.kept.traced;
          few = i.few;
          long_records = length-set s.records t r ∙ i.long_records;
          long_holders = long;
          long_lockers = i.long_lockers;
          long_earlier = i.long_earlier;
          small = λ u. elim (cases_eq u t) [ inl q ↦ rw (new.held_here u q) small | inr f ↦ rw (new.held_there u f) (i.small u) ];
          holder_is = holds;
          lockers_is = i.lockers_is;
          earlier_is = i.earlier_is;
          begun_is = i.begun_is;
          asks = λ u n w. elim (cases_eq u t) [
            | inl q ↦
                let (f, m, c) = asks n (sym (new.phase_here u q) ∙ w) in
                rw (same_locked u, new.held_here u q, q) (l, f, m, c)
            | inr f ↦ rw (same_locked u, new.held_there u f) (i.asks u n (sym (new.phase_there u f) ∙ w))
          ];
          spent = λ u e. elim (cases_eq u t) [
            | inl q ↦ new.held_here u q ∙ spent (sym (new.phase_here u q) ∙ e)
            | inr f ↦ new.held_there u f ∙ i.spent u (sym (new.phase_there u f) ∙ e)
          ];
          owned = i.owned;
          right = i.right;
          same_store = i.same_store;
        }

    -- t stands otherwise
    pub phase_kept : (p : Phase) → ((n : ℕ) → p ≡ Waiting (node n) → (n ∈ locked s t → ⊥) × May s.rule n (locked s t) (held s t) × (n < count s))
        → is_ended p ≡ false → Inv first (with_phase s t p) C A
    phase_kept p asks live =
        let r : Record = record { phase = p; locked = nodes (locked s t); held = nodes (held s t) } in
        changed_kept r s.holders refl (λ m b. b) i.long_holders (i.small t)
        (λ m u. elim (cases_eq u t) [
          | inl q ↦ rw ((new r s.holders).held_here u q) (rw q (i.holder_is m t))
          | inr f ↦ rw ((new r s.holders).held_there u f) (i.holder_is m u)
        ])
        asks (λ e. absurd (not_ended p live e))

    -- t gives n back
    pub released_kept : (n : ℕ) → n < 64 → n ∈ held s t → is_waiting (phase s t) ≡ false → is_ended (phase s t) ≡ false → Inv first (released s t n) C A
    released_kept n few h idle live =
        changed_kept r hs refl (λ m b. ((out m).0 b).0) (length-set s.holders n None ∙ i.long_holders) (without_lt 64 (held s t) n (i.small t))
        (λ m u. elim (cases_eq m n) [ inl q ↦ rw q (here u) | inr f ↦ there m u f ])
        (λ m w. absurd (not_waiting (phase s t) (node m) idle w))
        (λ e. absurd (not_ended (phase s t) live e))
      where
        r : Record
        r = record { phase = phase s t; locked = nodes (locked s t); held = nodes (without_member 64 (held s t) n) }

        hs : List (Option TransactionNumber)
        hs = set s.holders n None

        out : (m : ℕ) → (m ∈ without_member 64 (held s t) n) ↔ ((m ∈ held s t) × (m ≡ n → ⊥))
        out m = without_members 64 (held s t) n m (i.small t)

        here : (u : ℕ) → Holds (changed s t r hs) u n ↔ (n ∈ held (changed s t r hs) u)
        here u = (
          λ e. absurd (none_some _ (transaction u) (get_or-set_same s.holders n None None (omega (arith, few, i.long_holders))) e),
          λ b. elim (cases_eq u t) [
            | inl q ↦ absurd (((out n).0 (rw ((new r hs).held_here u q) at b)).1 refl)
            | inr f ↦ absurd (f (same_holder _ u t ((i.holder_is n u).1 (rw ((new r hs).held_there u f) at b)) ((i.holder_is n t).1 h)))
          ],
        )

        there : (m u : ℕ) → (m ≡ n → ⊥) → Holds (changed s t r hs) u m ↔ (m ∈ held (changed s t r hs) u)
        there m u g = rw (get_or-set_other s.holders n m None None g) (elim (cases_eq u t) [
          | inl q ↦ rw ((new r hs).held_here u q) (rw q (λ e. (out m).1 ((i.holder_is m t).0 e, g), λ b. (i.holder_is m t).1 ((out m).0 b).0))
          | inr f ↦ rw ((new r hs).held_there u f) (i.holder_is m u)
        ])

    -- t gives all back
    pub ended_kept : Inv first (ended s t) C A
    ended_kept =
        changed_kept r hs refl (λ m b. absurd (no_member m b)) (length-map s.holders (freed t) ∙ i.long_holders) (omega arith)
        (λ m u. rw (get_or-map (freed t) s.holders m None) (elim (cases_eq u t) [
          | inl q ↦ rw ((new r hs).held_here u q) (rw q (λ e. absurd (gone (holder s m) e), λ b. absurd (no_member m b)))
          | inr f ↦ rw ((new r hs).held_there u f) (
            λ e. (i.holder_is m u).0 (left (holder s m) u e),
            λ b. stays (holder s m) u f ((i.holder_is m u).1 b),
          )
        ]))
        (λ m w. absurd (not_waiting Ended (node m) refl w))
        (λ e. refl)
      where
        r : Record
        r = record { phase = Ended; locked = nodes (locked s t); held = nodes 0 }

        hs : List (Option TransactionNumber)
        hs = map (freed t) s.holders

        left : (o : Option TransactionNumber) (u : ℕ) → freed t o ≡ Some (transaction u) → o ≡ Some (transaction u)
        left None u e = e
        left (Some v) u e = elim (cases_eq v.0 t) [
          | inl q ↦ absurd (none_some None (transaction u) refl (rw (eq-eqb _ _ q) at e))
          | inr f ↦ rw (ne_eqb _ _ f) at e
        ]

        gone : (o : Option TransactionNumber) → freed t o ≡ Some (transaction t) → ⊥
        gone None e = none_some None (transaction t) refl e
        gone (Some v) e = elim (cases_eq v.0 t) [
          | inl q ↦ none_some None (transaction t) refl (rw (eq-eqb _ _ q) at e)
          | inr f ↦ f (same_holder (Some v) v.0 t refl (rw (ne_eqb _ _ f) at e))
        ]

        stays : (o : Option TransactionNumber) (u : ℕ) → (u ≡ t → ⊥) → o ≡ Some (transaction u) → freed t o ≡ Some (transaction u)
        stays o u f e = rw (e, ne_eqb u t f) refl
