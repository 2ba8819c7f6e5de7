use Rattle.std.proofs.Common.{refl, ap, ◌∙◌, arith}
use Rattle.session.specs.Of.{model_of}
use Rattle.scripts_model.specs.Buffer.{scripts_of}
use Rattle.scripts_model.specs.History.{begun_session}
use Rattle.scripts_model.specs.Limits.{numbers}
use Rattle.scripts_model.proofs.Starting.{started}
use Rattle.scripts.proofs.Admitting.{count_is, first_is}
use Rattle.scripts.proofs.state.ScriptRun.start.Goals as goal

pub returns-in-Ok : goal.returns-in-Ok
returns-in-Ok g c =
    let rule = g.R.LockRule.rule c.args.rule in
    let store = g.S.NodeStore.store c.args.store in
    let es = c.args.steps.now in
    let list = numbers c.args.turns.now in
    let found = c.in-Ok.cursors in
    let x = c.in-Ok.ensures in (
      started rule store (scripts_of es) list c.args.allowance _ (omega (arith, count_is es found x.1, x.1.few)) x.0
          (first_is rule store es found list (model_of g.R.LockRule.rule g.S.NodeStore.store c.with_begun.result) x.1 (c.with_begun.ensures ∙ ap (λ k. (begun_session rule store k).state) c.count.ensures)),
      refl,
    )
