use Rattle.std.proofs.Common.{◌-◌, sym, ap, ◌∙◌}
use Rattle.scripts_model.specs.Schedule.{played}
use Rattle.scripts.specs.Of.{run_of}
use Rattle.scripts.proofs.Turning.{goes_on, stops}
use Rattle.scripts.proofs.state.ScriptRun.play.Goals as goal

pub loop-preserved : goal.loop-preserved
loop-preserved g c =
    let of = run_of g.R.LockRule.rule g.S.NodeStore.store in
    let r = c.loop.self in
    let r' = c.advance.new.self in
    let x = c.advance.ensures in (
      ap (λ n. played (n - r'.taken) (of r')) x.keeps ∙ goes_on (of r) (of r') r.allowance x.leaves c.advance.result (sym c.is_some.ensures ∙ c.loop-test.true) x.turns ∙ c.loop.invariant.0,
      x.keeps ∙ c.loop.invariant.1,
    )

pub returns : goal.returns
returns g c =
    let of = run_of g.R.LockRule.rule g.S.NodeStore.store in
    let r = c.loop.self in
    let r' = c.advance.new.self in
    let x = c.advance.ensures in
    record {
      totals = c.totals.ensures;
      leaves = stops (of r) (of r') r.allowance x.leaves c.advance.result (sym c.is_some.ensures ∙ c.loop-test.false) x.turns ∙ c.loop.invariant.0;
      keeps = x.keeps ∙ c.loop.invariant.1;
    }
