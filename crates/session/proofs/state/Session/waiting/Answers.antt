use Rattle.std.proofs.Common.{◌≡◌, ◌*◌, length, take, None, sym, ap, ◌∙◌, arith}
use Rattle.basics.specs.declared.node.NodeNumber.{NodeNumber}
use Rattle.model.specs.declared.table.Phase.TheVariants.{Waiting}
use Rattle.model.specs.State.{phase, begun_count}
use Rattle.std.proofs.lemmas.List.{length-set, length-take-le}
use Rattle.session.specs.Of.{model_of}
use Rattle.session.specs.Reports.{short, waiting_count}
use Rattle.session.proofs.Orders.{long_enough}
use Rattle.session.proofs.Listing.{listing, waiters, two_fit, waiters_more, waiters_same, pair_none, table_phase, two_rest, listing_more, listing_same, listing_ends, listing_filled}
use Rattle.session.proofs.state.Session.waiting.Goals as goal

pub bounds-buffer-place : goal.bounds-buffer-place
bounds-buffer-place g c =
    let m = model_of g.R.LockRule.rule g.S.NodeStore.store c.args.self.now in
    let t = c.loop-t.t in
    let n = c.begun_count.result in
    let full : length (take n m.records) ≡ n = length-take-le n m.records (omega arith) in
    let waits = sym (table_phase m n t (omega arith)) ∙ c.in-Waiting.is in
    let fit = two_fit m t c.in-Waiting.n.0 c.loop-t.place (length c.loop-t.buffer) (omega arith) waits c.loop-t.invariant.2 (omega arith) in
    omega arith

pub bounds-buffer-place-in-loop-t : goal.bounds-buffer-place-in-loop-t
bounds-buffer-place-in-loop-t g c =
    let m = model_of g.R.LockRule.rule g.S.NodeStore.store c.args.self.now in
    let t = c.loop-t.t in
    let n = c.begun_count.result in
    let full : length (take n m.records) ≡ n = length-take-le n m.records (omega arith) in
    let waits = sym (table_phase m n t (omega arith)) ∙ c.in-Waiting.is in
    let fit = two_fit m t c.in-Waiting.n.0 c.loop-t.place (length c.loop-t.buffer) (omega arith) waits c.loop-t.invariant.2 (omega arith) in
    simp length-set fit

pub overflow_add-place : goal.overflow_add-place
overflow_add-place g c =
    let m = model_of g.R.LockRule.rule g.S.NodeStore.store c.args.self.now in
    let t = c.loop-t.t in
    let n = c.begun_count.result in
    let full : length (take n m.records) ≡ n = length-take-le n m.records (omega arith) in
    let waits = sym (table_phase m n t (omega arith)) ∙ c.in-Waiting.is in
    let fit = two_fit m t c.in-Waiting.n.0 c.loop-t.place (length c.loop-t.buffer) (omega arith) waits c.loop-t.invariant.2 (omega arith) in
    omega arith

pub loop-t-preserved : goal.loop-t-preserved
loop-t-preserved g c =
    let m = model_of g.R.LockRule.rule g.S.NodeStore.store c.args.self.now in
    let t = c.loop-t.t in
    let n = c.begun_count.result in
    let full : length (take n m.records) ≡ n = length-take-le n m.records (omega arith) in
    let waits = sym (table_phase m n t (omega arith)) ∙ c.in-Waiting.is in
    let fit = two_fit m t c.in-Waiting.n.0 c.loop-t.place (length c.loop-t.buffer) (omega arith) waits c.loop-t.invariant.2 (omega arith) in
    let L = listing (phase m) 0 (begun_count m) in (
      listing_more (phase m) (begun_count m) t c.loop-t.place L c.loop-t.buffer c.loop-t.invariant.0 c.in-Waiting.n.0 (omega arith) fit waits,
      two_rest c.loop-t.buffer c.args.buffer.now c.loop-t.place t c.in-Waiting.n.0 c.loop-t.invariant.1,
      omega (arith, c.loop-t.invariant.2, waiters_more (phase m) t c.in-Waiting.n.0 waits),
    )

pub loop-t-preserved-in_default : goal.loop-t-preserved-in_default
loop-t-preserved-in_default g c =
    let m = model_of g.R.LockRule.rule g.S.NodeStore.store c.args.self.now in
    let t = c.loop-t.t in
    let n = c.begun_count.result in
    let full : length (take n m.records) ≡ n = length-take-le n m.records (omega arith) in
    let none : (x : NodeNumber) → phase m t ≡ Waiting x → ⊥ = λ x e. c.in_default.not-Waiting x (table_phase m n t (omega arith) ∙ e) in
    let L = listing (phase m) 0 (begun_count m) in (
      listing_same (phase m) (begun_count m) t c.loop-t.place L c.loop-t.buffer c.loop-t.invariant.0 (omega arith) (pair_none (phase m t) t none),
      c.loop-t.invariant.1,
      c.loop-t.invariant.2 ∙ ap (λ x. 2 * x) (sym (waiters_same (phase m) t none)),
    )

pub returns-clause-leaves : goal.returns-clause-leaves
returns-clause-leaves g c =
    let m = model_of g.R.LockRule.rule g.S.NodeStore.store c.args.self.now in
    let L = listing (phase m) 0 (begun_count m) in
    let out = c.loop-t.buffer in
    let old = c.args.buffer.now in
    let all : c.loop-t.place ≡ 2 * waiting_count m = c.loop-t.invariant.2 ∙ ap (λ k. 2 * waiters (phase m) k) (omega arith) in
    let fits : short (length old) (2 * waiting_count m) ≡ None = long_enough (length old) (2 * waiting_count m) (omega arith) in
    let front = listing_ends (phase m) (begun_count m) c.loop-t.t c.loop-t.place L out c.loop-t.invariant.0 (omega arith) in
    listing_filled m out old c.loop-t.place (short (length old) (2 * waiting_count m)) fits front all c.loop-t.invariant.1
