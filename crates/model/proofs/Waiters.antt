-- Those that wait, as a list.
use Rattle.std.proofs.Common.{◌≡◌, ℕ, ◌<◌, true, ◌⊎◌, List, [], ◌∷◌, Some, None, filter, Option, refl, inl, inr}
use Rattle.std.proofs.lemmas.Bool.{false≢true}
use Rattle.basics.specs.declared.transaction.TransactionNumber.{TransactionNumber}
use Rattle.model.specs.declared.table.Phase.{Phase}
use Rattle.model.specs.declared.table.Phase.TheVariants.{Open, Waiting, Ended}
use Rattle.model.specs.Lists.{In, Distinct}
use Rattle.model.specs.State.{State, node, phase, holder, Waits, Holds}
use Rattle.model.specs.Checks.{is_waiting}
use Rattle.model.proofs.Lists.{in_kept_by, kept_by_in, distinct_kept_by}
use Rattle.model.proofs.Placing.{below, below_in, below_distinct}
use Rattle.model.proofs.Phases.{same_node, waits_for}

-- the node of one that waits
waited : Phase → ℕ
waited Open = 0
waited (Waiting n) = n.0
waited Ended = 0

waited_is : (p : Phase) → is_waiting p ≡ true → p ≡ Waiting (node (waited p))
unfolding waited
waited_is Open e = absurd (false≢true e)
waited_is (Waiting n) e = refl
waited_is Ended e = absurd (false≢true e)

module _ (s : State) where
  pub waiters : List ℕ
  waiters = filter (λ t. is_waiting (phase s t)) (below s.begun)

  pub want : ℕ → ℕ
  want t = waited (phase s t)

  pub waiters_wait : (t : ℕ) → In t waiters → Waits s t (want t)
  unfolding waiters want
  waiters_wait t j = waited_is (phase s t) (in_kept_by (λ t. is_waiting (phase s t)) (below s.begun) t j).1

  pub is_waiter : (t n : ℕ) → t < s.begun → Waits s t n → In t waiters
  unfolding waiters
  is_waiter t n l w = kept_by_in (λ t. is_waiting (phase s t)) (below s.begun) t (below_in s.begun t l) (waits_for (phase s t) (node n) w)

  pub wants : (t n : ℕ) → Waits s t n → want t ≡ n
  unfolding want
  wants t n w = same_node (phase s t) (waited (phase s t)) n (waited_is (phase s t) (waits_for (phase s t) (node n) w)) w

  pub waiters_distinct : Distinct waiters
  unfolding waiters
  waiters_distinct = distinct_kept_by _ (below s.begun) (below_distinct s.begun)

  -- one wants a free node, or all want held ones
  pub free_or_held : (ts : List ℕ) → ((t : ℕ) × In t ts × (holder s (want t) ≡ None)) ⊎ ((t : ℕ) → In t ts → (u : ℕ) × Holds s u (want t))
  free_or_held [] = inr (λ t j. absurd j)
  free_or_held (x ∷ ts) = go (holder s (want x)) refl (free_or_held ts)
    where
      go : (o : Option TransactionNumber) → holder s (want x) ≡ o
          → ((t : ℕ) × In t ts × (holder s (want t) ≡ None)) ⊎ ((t : ℕ) → In t ts → (u : ℕ) × Holds s u (want t))
          → ((t : ℕ) × In t (x ∷ ts) × (holder s (want t) ≡ None)) ⊎ ((t : ℕ) → In t (x ∷ ts) → (u : ℕ) × Holds s u (want t))
      go None e d = inl (x, inl refl, e)
      go (Some u) e (inl (t, j, f)) = inl (t, inr j, f)
      go (Some u) e (inr f) = inr (λ t. elim [ inl q ↦ rw q (u.0, e) | inr j ↦ f t j ])
