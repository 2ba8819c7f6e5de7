use Rattle.std.proofs.Common.{sym, arith, rules}
use Rattle.std.proofs.lemmas.List.{length-take, length-take-le}
use Rattle.session.specs.Of.{model_of}
use Rattle.runlines.proofs.Ordered.{order_within, order_is}
use Rattle.runlines.proofs.lists.write_order.Goals as goal

pub slice_bounds-order-end-2 : goal.slice_bounds-order-end-2
slice_bounds-order-end-2 g c =
    let m = model_of g.R.LockRule.rule g.S.NodeStore.store c.args.session.now in
    order_within m c.order.result c.in_ok-n.n c.order.new.buffer c.in_ok-n.was c.order.ensures.answers c.order.ensures.leaves

pub slice_bounds-write_transactions-end : goal.slice_bounds-write_transactions-end
slice_bounds-write_transactions-end g c =
    let m = model_of g.R.LockRule.rule g.S.NodeStore.store c.args.session.now in
    sym (length-take-le _ c.order.new.buffer
    (order_within m c.order.result c.in_ok-n.n c.order.new.buffer c.in_ok-n.was c.order.ensures.answers c.order.ensures.leaves))

pub write_transactions-requires : goal.write_transactions-requires
write_transactions-requires g c = simp length-take (omega arith)

pub returns : goal.returns
returns g c =
    let m = model_of g.R.LockRule.rule g.S.NodeStore.store c.args.session.now in
    let e = order_is m c.order.result c.in_ok-n.n c.order.new.buffer c.in_ok-n.was c.order.ensures.answers c.order.ensures.leaves in
    search rules
