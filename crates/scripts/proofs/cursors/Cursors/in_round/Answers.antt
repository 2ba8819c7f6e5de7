use Rattle.std.proofs.Common.{map, ap, ◌∙◌}
use Rattle.scripts_model.specs.Buffer.{script_at}
use Rattle.scripts.specs.Of.{number_or_none}
use Rattle.scripts.proofs.Searches.{round_is}
use Rattle.scripts.proofs.cursors.Cursors.in_round.Goals as goal

pub returns-clause-found : goal.returns-clause-found
returns-clause-found c = λ es.
    ap number_or_none c.or.ensures
    ∙ round_is (map (script_at es) c.args.self.now.places.items) c.args.place _ _ (c.from_on.ensures.found es) (c.from_on-2.ensures.found es)
