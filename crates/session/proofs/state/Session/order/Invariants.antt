use Rattle.std.proofs.Common.{◌≡◌, ◌-◌, ◌++◌, take, drop}
use Rattle.model.specs.Order.{predecessors, placing, serial_order}
use Rattle.model.specs.State.{begun_count}
use Rattle.session.specs.Of.{model_of}
use Rattle.session.proofs.state.Session.order.Given as goal

abbrev pub invariant-loop-k : goal.invariant-loop-k
invariant-loop-k g l =
    let m = model_of g.R.LockRule.rule g.S.NodeStore.store l.self in
    (serial_order m ≡ take l.k l.place-items ++ placing (predecessors m) (begun_count m) l.placed.mask (begun_count m - l.k))
    × (drop l.k l.place-items ≡ drop l.k l.initial.place-items)
