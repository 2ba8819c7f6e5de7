use Rattle.std.proofs.Common.{◌≡◌, ◌-◌, ◌*◌, ◌++◌, take, drop}
use Rattle.model.specs.State.{phase, begun_count}
use Rattle.session.specs.Of.{model_of}
use Rattle.session.proofs.Listing.{listing, waiters}
use Rattle.session.proofs.state.Session.waiting.Given as goal

abbrev pub invariant-loop-t : goal.invariant-loop-t
invariant-loop-t g l =
    let m = model_of g.R.LockRule.rule g.S.NodeStore.store l.self in
    (listing (phase m) 0 (begun_count m) ≡ take l.place l.buffer ++ listing (phase m) l.t (begun_count m - l.t))
    × (drop l.place l.buffer ≡ drop l.place l.initial.buffer)
    × (l.place ≡ 2 * waiters (phase m) l.t)
