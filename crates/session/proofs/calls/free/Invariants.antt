use Rattle.std.proofs.Common.{◌≡◌, ◌++◌, map, take, drop}
use Rattle.model.specs.Step.{freed}
use Rattle.session.proofs.calls.free.Given as goal

abbrev pub invariant-loop-holder : goal.invariant-loop-holder
invariant-loop-holder l = l.holders ≡ map (freed l.t.0) (take l.holder-index l.initial.holders) ++ drop l.holder-index l.initial.holders
