-- What holds of a session says that its tables agree with one another and with its history.
use Rattle.std.proofs.Common.{List, arith}
use Rattle.basics.proofs.Masks.{within_members, has_empty}
use Rattle.stores.specs.Store.{Store}
use Rattle.model.specs.Calls.{Event}
use Rattle.model.specs.State.{State, locked, held}
use Rattle.model.specs.Step.{session}
use Rattle.model.specs.History.{lockers_of, accesses}
use Rattle.model.specs.Consistent.{Consistent, EverySessionConsistent}
use Rattle.model.proofs.Members.{lacks}
use Rattle.model.proofs.Locking.{held_locked}
use Rattle.model.proofs.Inv.{view, Inv}
use Rattle.model.proofs.Steps.{every_run}
use Rattle.model.proofs.Explains.{holder_begun}
use Rattle.model.proofs.Standings.{Told, every_run_told}

consistent : (first : Store) (h : List Event) (s : State) → Inv first s (lockers_of h) (accesses h) → Told (record { state = s; log = h }) → Consistent h s
consistent first h s i told = record {
  phase_is = told.phases;
  holder_is = told.holders;
  begun_is = told.begun;
  few = i.few;
  long_records = i.long_records;
  long_holders = i.long_holders;
  long_lockers = i.long_lockers;
  long_earlier = i.long_earlier;
  holds = λ u n. i.holder_is n u;
  begun_holder = λ u n e. holder_begun first h s i n u e;
  last_locker = λ u n e. i.kept.held_last n u ((i.holder_is n u).0 e);
  held_locked = λ t. (within_members (held s t) (locked s t)).1 (held_locked s.rule (view s (lockers_of h) i.entry (accesses h)) i.kept t);
  unbegun_empty = λ t l. has_empty (locked s t) (λ n. lacks (locked s t) n (λ b. omega (arith, l, i.begun_is n t ((i.kept.locked_is n t).0 b))));
  ended_empty = i.spent;
  waits_new = λ t n w. let (b, f, m, c) = i.asks t n w in (b, c, f);
  locked_is = λ t n. i.kept.locked_is n t;
  lockers_is = λ t n. i.lockers_is n t;
  earlier_is = λ u t. i.earlier_is t u;
}

pub every_session_consistent : EverySessionConsistent
every_session_consistent rule store cs = consistent store (session rule store cs).log (session rule store cs).state (every_run rule store cs) (every_run_told rule store cs)
