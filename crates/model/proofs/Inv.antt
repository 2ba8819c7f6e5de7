-- What holds of a session after whatever calls.
use Rattle.std.proofs.Common.{◌≡◌, ℕ, zero, suc, ◌^◌, ◌<◌, ◌≤◌, ◌↔◌, List, [], length, get_or, replicate, None, Option, refl, ap, arith}
use lib.ListN.{length-replicate}
use Rattle.basics.proofs.Masks.{no_member}
use Rattle.basics.specs.declared.transaction.TransactionNumber.{TransactionNumber}
use Rattle.rules.specs.Rule.{Rule}
use Rattle.stores.specs.Store.{Store}
use Rattle.model.specs.declared.table.Phase.TheVariants.{Ended}
use Rattle.model.specs.Lists.{In, Before}
use Rattle.model.specs.State.{begun_count, State, transactions, lockers_at, earlier_than, blank, phase, locked, held, count, Waits, Holds, start}
use Rattle.model.specs.History.{Access}
use Rattle.model.specs.Replay.{Below, replay}
use Rattle.model.proofs.Members.{◌∈◌}
use Rattle.model.proofs.Views.{View, May, Kept}
use Rattle.model.proofs.Locking.{start_kept}
use Rattle.model.proofs.Replays.{Right}

-- the session s, with C n who locked n, in order, e t the first node of t, and A the accesses
abbrev pub view : State → (ℕ → List ℕ) → (ℕ → ℕ) → List Access → View
view s C e A = record { lockers = C; entry = e; locked = locked s; held = held s; trace = A }

-- t may ask for n
abbrev pub Asking : State → ℕ → ℕ → Type 0
Asking s t n = (t < s.begun) × (n ∈ locked s t → ⊥) × May s.rule n (locked s t) (held s t) × (n < count s)

pub record Inv (first : Store) (s : State) (C : ℕ → List ℕ) (A : List Access) : Type 0 where
  pub entry : ℕ → ℕ
  pub kept : Kept s.rule (view s C entry A)
  pub few : s.begun ≤ 32
  pub long_records : length s.records ≡ 32
  pub long_holders : length s.holders ≡ 64
  pub long_lockers : length s.lockers ≡ 64
  pub long_earlier : length s.earlier ≡ 32
  pub small : (t : ℕ) → held s t < 2 ^ 64
  pub holder_is : (n u : ℕ) → Holds s u n ↔ (n ∈ held s u)
  pub lockers_is : (n u : ℕ) → (u ∈ lockers_at s n) ↔ In u (C n)
  pub earlier_is : (t u : ℕ) → (u ∈ earlier_than s t) ↔ ((n : ℕ) × Before u t (C n))
  pub begun_is : (n t : ℕ) → In t (C n) → t < s.begun
  pub asks : (t n : ℕ) → Waits s t n → Asking s t n
  pub spent : (t : ℕ) → phase s t ≡ Ended → held s t ≡ 0
  pub owned : Below s.begun A
  pub right : Right first A
  pub same_store : replay first A ≡ s.store

pub all_begun : (s : State) → s.begun ≤ 32 → begun_count s ≡ s.begun
all_begun s few = omega arith

-- what stands at each place of an array of one element, and past its end
pub get_or-replicated : {X : Type 0} (k i : ℕ) (x : X) → get_or (replicate k x) i x ≡ x
get_or-replicated zero i x = refl
get_or-replicated (suc k) zero x = refl
get_or-replicated (suc k) (suc i) x = get_or-replicated k i x

pub start_inv : (rule : Rule) (store : Store) → Inv store (start rule store) (λ n. []) []
start_inv rule store = record {
  entry = λ t. 0;
  kept = start_kept rule (view (start rule store) (λ n. []) (λ t. 0) []) (λ n. refl)
      (λ n t h. no_member n (rw (ap (λ r. r.locked.mask) (get_or-replicated 32 t blank)) at h))
      (λ n t h. no_member n (rw (ap (λ r. r.held.mask) (get_or-replicated 32 t blank)) at h))
      refl;
  few = omega arith;
  long_records = length-replicate 32 blank;
  long_holders = length-replicate {A = Option TransactionNumber} 64 None;
  long_lockers = length-replicate 64 (transactions 0);
  long_earlier = length-replicate 32 (transactions 0);
  small = λ t. rw (get_or-replicated 32 t blank) (omega arith);
  holder_is = λ n u. (
    λ e. cc (get_or-replicated {X = Option TransactionNumber} 64 n None, e),
    λ h. absurd (no_member n (rw (ap (λ r. r.held.mask) (get_or-replicated 32 u blank)) at h)),
  );
  lockers_is = λ n u. (λ h. absurd (no_member u (rw (ap (λ x. x.mask) (get_or-replicated 64 n (transactions 0))) at h)), λ i. absurd i);
  earlier_is = λ t u. (λ h. absurd (no_member u (rw (ap (λ x. x.mask) (get_or-replicated 32 t (transactions 0))) at h)), λ i. absurd i.1);
  begun_is = λ n t i. absurd i;
  asks = λ t n w. cc (ap (λ r. r.phase) (get_or-replicated 32 t blank), w);
  spent = λ t e. ap (λ r. r.held.mask) (get_or-replicated 32 t blank);
  owned = tt;
  right = tt;
  same_store = refl;
}
