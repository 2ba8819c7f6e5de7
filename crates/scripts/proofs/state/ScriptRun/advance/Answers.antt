use Rattle.std.proofs.Common.{◌≡◌, Some, None, refl, sym, ap, ◌∙◌, arith}
use Rattle.scripts_model.specs.Schedule.{by_turn}
use Rattle.scripts.specs.Of.{scripted_of, run_of, told, scheduled, number_or_none}
use Rattle.scripts.proofs.Turning.{in_time, whose_listed, listed_turn, whose_round, round_turn}
use Rattle.scripts.proofs.state.ScriptRun.advance.Goals as goal

pub returns-in-Some : goal.returns-in-Some
returns-in-Some g c =
    let r = c.args.self.now in
    let x = c.take.ensures in
    let script = c.in-Some.field-0-0.now in
    let rest = c.in-Some.rest.now in
    let d = scripted_of g.R.LockRule.rule g.S.NodeStore.store r in
    let run = run_of g.R.LockRule.rule g.S.NodeStore.store r in
    let e = c.in-Some.ensures.cases.0 in
    let q = whose_listed d r.turns.now r.place r.taken script rest e ∙ in_time run r.allowance c.if-self.false in
    record {
      turns = x.turns ∙ ap (told d) q;
      leaves = x.leaves ∙ listed_turn d r.turns.now r.place r.taken script rest e ∙ ap (by_turn run) q;
      keeps = x.keeps;
      fewer = omega (arith, x.keeps, ap (λ r. r.turns) x.leaves, c.if-self.false);
    }

pub returns-in_err-script : goal.returns-in_err-script
returns-in_err-script g c =
    let r = c.args.self.now in
    let d = scripted_of g.R.LockRule.rule g.S.NodeStore.store r in
    let run = run_of g.R.LockRule.rule g.S.NodeStore.store r in
    let none = ap number_or_none (sym c.in_err-script.was) ∙ c.in_round.ensures.found r.steps.now in
    let q : None ≡ scheduled r.allowance run =
    whose_round d r.turns.now r.place r.taken c.in_default.ensures.cases None none ∙ in_time run r.allowance c.if-self.false in
    rw c.from_residual.ensures record {
      turns = ap (told d) q;
      leaves = ap (by_turn run) q;
      keeps = refl;
      fewer = tt;
    }

pub returns : goal.returns
returns g c =
    let r = c.args.self.now in
    let x = c.take-2.ensures in
    let t = c.in_ok-script.script.0 in
    let d = scripted_of g.R.LockRule.rule g.S.NodeStore.store r in
    let run = run_of g.R.LockRule.rule g.S.NodeStore.store r in
    let some = ap number_or_none (sym c.in_ok-script.was) ∙ c.in_round.ensures.found r.steps.now in
    let q : Some t ≡ scheduled r.allowance run =
    whose_round d r.turns.now r.place r.taken c.in_default.ensures.cases (Some t) some ∙ in_time run r.allowance c.if-self.false in
    record {
      turns = x.turns ∙ ap (told d) q;
      leaves = x.leaves ∙ round_turn d r.turns.now r.place r.taken c.in_default.ensures.cases t ∙ ap (by_turn run) q;
      keeps = x.keeps;
      fewer = omega (arith, x.keeps, ap (λ r. r.turns) x.leaves, c.if-self.false);
    }
