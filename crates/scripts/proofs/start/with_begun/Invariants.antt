use Rattle.std.proofs.Common.{◌≡◌, [], replicate}
use Rattle.model.specs.Calls.{begin}
use Rattle.model.specs.Step.{run}
use Rattle.session.specs.Of.{model_of}
use Rattle.scripts.proofs.start.with_begun.Given as goal

abbrev pub invariant-loop : goal.invariant-loop
invariant-loop g l =
    let of = model_of g.R.LockRule.rule g.S.NodeStore.store in
    of l.session ≡ (run (record { state = of l.initial.session; log = [] }) (replicate l.counter begin)).state
