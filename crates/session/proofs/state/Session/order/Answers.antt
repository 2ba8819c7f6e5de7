use Rattle.std.proofs.Common.{◌≡◌, ℕ, ◌+◌, ◌-◌, ◌<◌, ◌++◌, length, take, drop, set, ap, ◌∙◌, arith}
use Rattle.std.proofs.lemmas.List.{set-get_or, length-take-le}
use mathlib.Core.Path.{subst⁻¹}
use Rattle.model.specs.Order.{predecessors, placing, serial_order}
use Rattle.model.specs.State.{begun_count}
use Rattle.session.specs.Of.{model_of}
use Rattle.session.proofs.Orders.{order_more, order_stops, long_enough, front_answers, front_leaves, rest_more}
use Rattle.session.proofs.state.Session.order.Goals as goal

pub returns-in_default-clause-answers : goal.returns-in_default-clause-answers
returns-in_default-clause-answers g c =
    let m = model_of g.R.LockRule.rule g.S.NodeStore.store c.args.self.now in
    let places = c.loop-k.place-items in
    let old = c.args.buffer.now in
    let k = c.loop-k.k in
    let n = c.begun_count-n.result in
    let full : length (take n old) ≡ n = length-take-le n old (omega arith) in
    let front = order_stops (predecessors m) (begun_count m) (serial_order m) places c.loop-k.placed.mask k c.loop-k.invariant.0 (omega arith) c.in_default.ensures in
    front_answers (serial_order m) places k front (omega arith) _ (long_enough (length old) (begun_count m) (omega arith))

pub returns-in_default-clause-leaves : goal.returns-in_default-clause-leaves
returns-in_default-clause-leaves g c =
    let m = model_of g.R.LockRule.rule g.S.NodeStore.store c.args.self.now in
    let places = c.loop-k.place-items in
    let old = c.args.buffer.now in
    let k = c.loop-k.k in
    let n = c.begun_count-n.result in
    let full : length (take n old) ≡ n = length-take-le n old (omega arith) in
    let front = order_stops (predecessors m) (begun_count m) (serial_order m) places c.loop-k.placed.mask k c.loop-k.invariant.0 (omega arith) c.in_default.ensures in
    ap (λ x. x ++ drop n old) (set-get_or places k 0)
    ∙ front_leaves (serial_order m) places k front (omega arith) old n (omega arith) (omega arith) c.loop-k.invariant.1 _ (long_enough (length old) (begun_count m) (omega arith))

pub loop-k-preserved : goal.loop-k-preserved
loop-k-preserved g c =
    let m = model_of g.R.LockRule.rule g.S.NodeStore.store c.args.self.now in
    let places = c.loop-k.place-items in
    let old = c.args.buffer.now in
    let k = c.loop-k.k in
    let n = c.begun_count-n.result in
    let full : length (take n old) ≡ n = length-take-le n old (omega arith) in
    let l : k < length places = omega arith in (
      subst⁻¹ (λ (p : ℕ). serial_order m ≡ take (k + 1) (set places k c.in-Some.t.0) ++ placing (predecessors m) (begun_count m) p (begun_count m - (k + 1))) c.with-placed.ensures.mask
          (order_more (predecessors m) (begun_count m) (serial_order m) places c.loop-k.placed.mask k c.loop-k.invariant.0 c.in-Some.t.0 (omega arith) l c.in-Some.ensures),
      rest_more places (take n old) k c.in-Some.t.0 c.loop-k.invariant.1,
    )
