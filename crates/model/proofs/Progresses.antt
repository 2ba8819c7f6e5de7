-- A session never comes to a standstill.
use Rattle.std.proofs.Common.{◌≡◌, ℕ, not, List, [], ◌∷◌, pos, refl, ap, ◌∙◌, inl, inr, arith}
use Rattle.std.proofs.lemmas.Bool.{eq-eqb, lt-leb}
use Rattle.basics.proofs.Masks.{no_member}
use Rattle.stores.specs.Store.{Store}
use Rattle.model.specs.Lists.{In, Before, Distinct}
use Rattle.model.specs.Calls.{Event, lock, done}
use Rattle.model.specs.State.{begun_count, State, locked, holder, count, Waits, Holds}
use Rattle.model.specs.Checks.{lock_checks, is_ended, waits_elsewhere, grant_or_wait, answer}
use Rattle.model.specs.Step.{session}
use Rattle.model.specs.Order.{serial_order}
use Rattle.model.specs.History.{accesses, lockers_of}
use Rattle.model.specs.Explained.{Explained}
use Rattle.model.specs.Progress.{Deadlock, Standstill, Progress, EverySessionProgresses}
use Rattle.model.proofs.Lists.{before_right}
use Rattle.model.proofs.Members.{lacks}
use Rattle.model.proofs.Refusing.{none_applies}
use Rattle.model.proofs.Inv.{Inv}
use Rattle.model.proofs.Steps.{every_run}
use Rattle.model.proofs.Waiters.{waiters, want, waiters_wait, is_waiter, free_or_held}
use Rattle.model.proofs.Standings.{Told, every_run_told}
use Rattle.model.proofs.Explains.{holder_begun, explained}

-- none of X is in a list where each of X has one of X before it
no_first : (X : ℕ → Type 0) (L : List ℕ) → Distinct L → ((t : ℕ) → X t → In t L → (u : ℕ) × X u × Before u t L) → (t : ℕ) → X t → In t L → ⊥
no_first X [] a prev t x j = j
no_first X (y ∷ L) a prev t x j = elim j [
  | inl q ↦ head (rw q at x)
  | inr k ↦ no_first X L a.1 (λ v z m. later v (prev v z (inr m))) t x k
]
  where
    head : X y → ⊥
    head z =
        let (u, w, b) = prev y z (inl refl) in
        elim b [ inl c ↦ a.0 c.1 | inr c ↦ a.0 (before_right L u y c) ]

    later : (v : ℕ) → (u : ℕ) × X u × Before u v (y ∷ L) → (u : ℕ) × X u × Before u v L
    later v (u, z, b) = elim b [ inl c ↦ absurd (head (rw c.0 at z)) | inr c ↦ (u, z, c) ]

module _ (first : Store) (h : List Event) (s : State) (i : Inv first s (lockers_of h) (accesses h)) (told : Told (record { state = s; log = h })) where
  x : Explained first h s (serial_order s)
  x = explained first h s i told

  again : (t n : ℕ) → Waits s t n → answer s (lock t n) ≡ grant_or_wait (holder s n)
  again t n w =
      let (l, f, m, c) = i.asks t n w in
      none_applies (lock_checks s t n) (grant_or_wait (holder s n)) (
        lt-leb (begun_count s) t (omega (arith, l, i.few)),
        (ap is_ended w, (lt-leb (count s) n c, (ap (λ p. waits_elsewhere p n) w ∙ ap not (eq-eqb n n refl), (lacks (locked s t) n f, (ap not m, tt))))),
      )

  no_deadlock : (t : ℕ) (ts : List ℕ) → Deadlock s (t ∷ ts) → ⊥
  no_deadlock t ts c =
      no_first (λ u. In u (t ∷ ts)) (serial_order s) x.once
      (λ u j k. let (n, w, a, b, m) = c u j in (w, m, x.waits u n w a b))
      t (inl refl) (let (n, w, a, b, m) = c t (inl refl) in (x.all t).1 (i.asks t n a).0)

  -- a holder is begun and not ended, so it waits
  holder_waits : Standstill s → (u n : ℕ) → Holds s u n → In u (waiters s)
  holder_waits still u n e =
      let l = holder_begun first h s i n u e in
      elim (still u l) [
        | inl z ↦ absurd (no_member n (rw (i.spent u z) at ((i.holder_is n u).0 e)))
        | inr (m, w) ↦ is_waiter s u m l w
      ]

  goes_on : Standstill s → (t m : ℕ) → Waits s t m → (u : ℕ) × (n : ℕ) × Waits s u n × (answer s (lock u n) ≡ done (pos 0))
  goes_on still t m w = elim (free_or_held s (waiters s)) [
    | inl (u, j, e) ↦ (u, want s u, waiters_wait s u j, again u (want s u) (waiters_wait s u j) ∙ ap grant_or_wait e)
    | inr f ↦ absurd (no_deadlock t (waiters s) (λ u j.
        let k : In u (waiters s) = elim j [ inl q ↦ rw q (is_waiter s t m (i.asks t m w).0 w) | inr k ↦ k ] in
        let (v, e) = f u k in
        (want s u, v, waiters_wait s u k, e, inr (holder_waits still v (want s u) e))))
  ]

  pub progress : Progress s
  progress = record { again = again; no_deadlock = no_deadlock; goes_on = goes_on }

pub every_session_progresses : EverySessionProgresses
every_session_progresses rule store cs = progress store (session rule store cs).log (session rule store cs).state (every_run rule store cs) (every_run_told rule store cs)
