use Rattle.std.proofs.Common.{◌∙◌, rules, tests}
use Rattle.std.proofs.lemmas.Iterator.{YieldsList-from_slice}
use Rattle.std.proofs.lemmas.Iterator.Search.{position_from_yields_List}
use Rattle.scripts.proofs.Finding.{is_end, before_end_at}
use Rattle.scripts.proofs.find.before_first.Goals as goal

pub returns : goal.returns
returns c =
    let es = c.args.steps.now in
    let e = position_from_yields_List is_end _ _ c.position.result c.position.ensures.ran (YieldsList-from_slice es (cc)) (λ x b q k. search (rules, tests)) in
    c.unwrap_or.ensures ∙ before_end_at es c.position.result e
