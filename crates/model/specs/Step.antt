-- What each call does to the session.
use Rattle.std.specs.Prelude.{ℕ, ◌+◌, cond, List, [], ◌∷◌, ◌++◌, map, ◌+ℤ◌, Some, None, Option, ◌==◌, bit_or, slice_set}
use Rattle.basics.specs.declared.transaction.TransactionNumber.{TransactionNumber}
use Rattle.basics.specs.Sets.{with_member, without_member}
use Rattle.rules.specs.Rule.{Rule}
use Rattle.stores.specs.Store.{Store, put}
use Rattle.model.specs.declared.table.Phase.{Phase}
use Rattle.model.specs.declared.table.Phase.TheVariants.{Open, Waiting, Ended}
use Rattle.model.specs.declared.table.Record.{Record}
use Rattle.model.specs.Calls.{Operation, read, write, adjust, Call, begin, lock, release, access, withdraw, end, Answer, done, waiting, refused, Event}
use Rattle.model.specs.State.{State, node, transaction, nodes, transactions, phase, locked, held, lockers_at, earlier_than, start}
use Rattle.model.specs.Checks.{answer}

-- one more transaction is begun
abbrev pub one_more_begun : State → State
one_more_begun s = record {
  begun = s.begun + 1;
  records = s.records;
  holders = s.holders;
  lockers = s.lockers;
  earlier = s.earlier;
  rule = s.rule;
  store = s.store;
}

-- t locks n and holds it: all that locked n before are earlier than t
abbrev pub granted : State → ℕ → ℕ → State
granted s t n = record {
  begun = s.begun;
  records = slice_set s.records t (record {
    phase = Open;
    locked = nodes (with_member 64 (locked s t) n);
    held = nodes (with_member 64 (held s t) n);
  });
  holders = slice_set s.holders n (Some (transaction t));
  lockers = slice_set s.lockers n (transactions (with_member 32 (lockers_at s n) t));
  earlier = slice_set s.earlier t (transactions (bit_or (earlier_than s t) (lockers_at s n)));
  rule = s.rule;
  store = s.store;
}

-- t has the record r, and the nodes have these holders
abbrev pub changed : State → ℕ → Record → List (Option TransactionNumber) → State
changed s t r holders = record {
  begun = s.begun;
  records = slice_set s.records t r;
  holders = holders;
  lockers = s.lockers;
  earlier = s.earlier;
  rule = s.rule;
  store = s.store;
}

-- t stands at p
abbrev pub with_phase : State → ℕ → Phase → State
with_phase s t p = changed s t (record { phase = p; locked = nodes (locked s t); held = nodes (held s t) }) s.holders

-- t gives n back
abbrev pub released : State → ℕ → ℕ → State
released s t n =
    changed s t (record { phase = phase s t; locked = nodes (locked s t); held = nodes (without_member 64 (held s t) n) })
    (slice_set s.holders n None)

-- nobody, in place of t
abbrev pub freed : ℕ → Option TransactionNumber → Option TransactionNumber
freed t None = None
freed t (Some u) = cond (u.0 == t) None (Some u)

-- t gives back all that it holds
abbrev pub ended : State → ℕ → State
ended s t = changed s t (record { phase = Ended; locked = nodes (locked s t); held = nodes 0 }) (map (freed t) s.holders)

-- the store after an operation at n
abbrev pub performed : Store → ℕ → Operation → Store
performed s n read = s
performed s n (write v) = put s n v
performed s n (adjust d) = put s n (s.values n +ℤ d)

-- the session has this store
abbrev pub with_store : State → Store → State
with_store s store = record {
  begun = s.begun;
  records = s.records;
  holders = s.holders;
  lockers = s.lockers;
  earlier = s.earlier;
  rule = s.rule;
  store = store;
}

-- the session after a call that is done
abbrev pub when_done : State → Call → State
when_done s begin = one_more_begun s
when_done s (lock t n) = granted s t n
when_done s (release t n) = released s t n
when_done s (access t n op) = with_store s (performed s.store n op)
when_done s (withdraw t) = with_phase s t Open
when_done s (end t) = ended s t

-- the session after a call that is to wait: only a lock is
abbrev pub when_waiting : State → Call → State
when_waiting s begin = s
when_waiting s (lock t n) = with_phase s t (Waiting (node n))
when_waiting s (release t n) = s
when_waiting s (access t n op) = s
when_waiting s (withdraw t) = s
when_waiting s (end t) = s

-- the session after a call that was answered so; a refusal leaves it as it is
abbrev pub after : State → Call → Answer → State
after s c (done x) = when_done s c
after s c (waiting u) = when_waiting s c
after s c (refused k) = s

-- a session, and what was called and answered so far, oldest first
pub record Run : Type 0 where
  pub state : State
  pub log : List Event

-- one more call
abbrev pub step : Run → Call → Run
step r c =
    let a = answer r.state c in
    record { state = after r.state c a; log = r.log ++ (record { call = c; answer = a } ∷ []) }

-- more calls, one after the other
abbrev pub run : Run → List Call → Run
run r [] = r
run r (c ∷ cs) = run (step r c) cs

-- a new session after these calls
abbrev pub session : Rule → Store → List Call → Run
session rule store calls = run (record { state = start rule store; log = [] }) calls
