-- The check finds this alone; written out, it shows which fact a wrong comparison breaks.
use Rattle.std.proofs.Common.{ltb, rules, tests}
use Rattle.std.proofs.lemmas.Iterator.{YieldsList-from_slice}
use Rattle.std.proofs.lemmas.Iterator.Search.{all_from_yields_List}
use Rattle.basics.proofs.list.all_below.Goals as goal

pub returns : goal.returns
returns g c = all_from_yields_List (λ n. ltb (g.T.Numbered.number n) c.args.limit) _ _ _ c.all.ensures.ran (YieldsList-from_slice c.args.list.now (cc)) (λ x b q k. search (rules, tests))
