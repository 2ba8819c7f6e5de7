use Rattle.std.proofs.Common.{Bool, ap}
use Rattle.scripts.proofs.state.ScriptRun.totals.Goals as goal

pub returns : goal.returns
returns g c =
    let r = c.args.self.now in
    ap (λ (b : Bool). record { turns = r.taken; all_done = b }) (c.all_done.ensures r.steps.now)
