-- The predecessors that a session reports, and its serial order.
use Rattle.std.specs.Prelude.{ℕ, zero, suc, Bool, cond, not, ◌&&◌, List, [], ◌∷◌, Some, None, Option, bit_or, nat_lt}
use Rattle.basics.specs.declared.transaction.TransactionNumber.{TransactionNumber}
use Rattle.basics.specs.Sets.{has, with_member, within}
use Rattle.model.specs.declared.table.Phase.{Phase}
use Rattle.model.specs.declared.table.Phase.TheVariants.{Open, Waiting, Ended}
use Rattle.model.specs.Calls.{or_else}
use Rattle.model.specs.State.{State, phase, holder, earlier_than, begun_count}

-- the set of a holder
abbrev pub holder_set : Option TransactionNumber → ℕ
holder_set None = 0
holder_set (Some u) = with_member 32 0 u.0

-- the holder of the node that is waited for
abbrev pub waited_for : State → Phase → ℕ
waited_for s Open = 0
waited_for s (Waiting n) = holder_set (holder s n.0)
waited_for s Ended = 0

-- the predecessors of a begun t: those that locked a node of t before t did, and the holder of the node that t waits for
abbrev pub predecessors : State → ℕ → ℕ
predecessors s t = cond (nat_lt t (begun_count s)) (bit_or (earlier_than s t) (waited_for s (phase s t))) 0

-- t is not placed yet, and all its predecessors are
abbrev pub ready : (ℕ → ℕ) → ℕ → ℕ → Bool
ready before placed t = not (has placed t) && within (before t) placed

-- the lowest number below k that passes
abbrev pub lowest : (ℕ → Bool) → ℕ → Option ℕ
lowest passes zero = None
lowest passes (suc k) = or_else (lowest passes k) (cond (passes k) (Some k) None)

-- nothing, or t and what follows it
abbrev pub then : Option ℕ → (ℕ → List ℕ) → List ℕ
then None rest = []
then (Some t) rest = t ∷ rest t

-- of the transactions below count, each time the lowest that is ready, at most k times
abbrev pub placing : (ℕ → ℕ) → ℕ → ℕ → ℕ → List ℕ
placing before count placed zero = []
placing before count placed (suc k) =
    then (lowest (ready before placed) count) (λ t. placing before count (with_member 32 placed t) k)

-- all begun transactions, each time the lowest unplaced one whose predecessors are all placed
abbrev pub serial_order : State → List ℕ
serial_order s = placing (predecessors s) (begun_count s) 0 (begun_count s)
