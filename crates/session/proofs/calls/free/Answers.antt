use Rattle.std.proofs.Common.{rules}
use Rattle.std.proofs.lemmas.List.Edits.{map_over_more}
use Rattle.std.proofs.lemmas.List.{take_all, drop_all}
use Rattle.model.specs.Step.{freed}
use Rattle.session.proofs.calls.free.Goals as goal

pub loop-holder-preserved : goal.loop-holder-preserved
loop-holder-preserved c = search (rules, map_over_more (freed c.args.t.0))

pub returns : goal.returns
returns c = search (rules, take_all, drop_all)
