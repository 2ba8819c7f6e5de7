use Rattle.std.proofs.Common.{sym, refl, ◌∙◌}
use Rattle.session.specs.Of.{model_of, answer_of}
use Rattle.scripts_model.proofs.Cursors.{one_turn}
use Rattle.scripts.specs.Of.{run_of}
use Rattle.scripts.proofs.Turning.{alone}
use Rattle.scripts.proofs.state.ScriptRun.step.Goals as goal

pub returns : goal.returns
returns g c =
    let r = c.args.self.now in
    let of = model_of g.R.LockRule.rule g.S.NodeStore.store in
    let x = c.perform-answer in
    let (a, b) = one_turn r.steps.now (of r.session) r.cursors.places.items c.args.t.0 (of x.new.session) c.in_ok-at.at c.step_at-step.result
    (answer_of x.result) c.moved.result (sym c.place.ensures ∙ c.in_ok-at.was) c.step_at-step.ensures.is x.ensures.answers x.ensures.leaves c.moved.ensures in
    record {
      answers = a;
      leaves = rw c.set_place.ensures (alone (run_of g.R.LockRule.rule g.S.NodeStore.store r) _ c.args.t.0 b);
      keeps = refl;
    }
