use Rattle.session.specs.Of.{model_of}
use Rattle.scripts.proofs.Admitting.{begun_more}
use Rattle.scripts.proofs.start.with_begun.Goals as goal

pub loop-preserved : goal.loop-preserved
loop-preserved g c =
    let of = model_of g.R.LockRule.rule g.S.NodeStore.store in
    let x = c.begin.ensures in
    begun_more (of c.new-session.result) (of c.loop.session) (of c.begin.new.self) c.loop.counter _ c.loop.invariant x.answers x.leaves
