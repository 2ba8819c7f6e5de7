use Rattle.std.proofs.Common.{◌∙◌, rules, tests}
use Rattle.std.proofs.lemmas.Iterator.{YieldsList-from_slice}
use Rattle.std.proofs.lemmas.Iterator.Search.{all_from_yields_List}
use Rattle.scripts.proofs.Searches.{all_none}
use Rattle.scripts.proofs.cursors.Cursors.all_done.Goals as goal

pub returns : goal.returns
returns c = λ es.
    let cs = c.args.self.now.places.items in
    all_from_yields_List _ _ _ _ c.all.ensures.ran (YieldsList-from_slice cs cc) (λ x b q k. search (rules, tests)) ∙ all_none es cs
