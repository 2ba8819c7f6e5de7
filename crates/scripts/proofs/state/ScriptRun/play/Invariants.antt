use Rattle.std.proofs.Common.{◌≡◌, ◌-◌}
use Rattle.scripts_model.specs.Schedule.{played}
use Rattle.scripts.specs.Of.{run_of}
use Rattle.scripts.proofs.state.ScriptRun.play.Given as goal

-- what is left of the allowance leads to where all of it leads
abbrev pub invariant-loop : goal.invariant-loop
invariant-loop g l =
    let of = run_of g.R.LockRule.rule g.S.NodeStore.store in
    (played (l.self.allowance - l.self.taken) (of l.self) ≡ played (l.initial.self.allowance - l.initial.self.taken) (of l.initial.self))
    × (l.self.allowance ≡ l.initial.self.allowance)

abbrev pub decreases-loop : goal.decreases-loop
decreases-loop g l = l.self.allowance - l.self.taken
