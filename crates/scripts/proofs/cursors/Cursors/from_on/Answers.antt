use Rattle.std.proofs.Common.{◌+◌, sym, ap, ◌∙◌, rules, tests}
use Rattle.std.specs.Option.{is_some, option_map}
use Rattle.std.proofs.lemmas.Iterator.{YieldsList-from_slice}
use Rattle.std.proofs.lemmas.Iterator.Adapters.{YieldsList-from_skip}
use Rattle.std.proofs.lemmas.Iterator.Search.{position_from_yields_List}
use Rattle.scripts.proofs.Searches.{first_is}
use Rattle.scripts.proofs.cursors.Cursors.from_on.Goals as goal

pub returns-in_err-ahead-clause-found : goal.returns-in_err-ahead-clause-found
returns-in_err-ahead-clause-found c = λ es.
    let cs = c.args.self.now.places.items in
    let place = c.args.place in
    let e = position_from_yields_List is_some _ _ c.position.result c.position.ensures.ran
    (YieldsList-from_skip place (YieldsList-from_slice cs (cc)) (cc)) (λ x b q k. search (rules, tests)) in
    let r = first_is es cs place c.position.result e in
    rw c.from_residual.ensures (sym (ap (option_map (λ n. place + n)) c.in_err-ahead.was) ∙ r)

pub returns-clause-found : goal.returns-clause-found
returns-clause-found c = λ es.
    let cs = c.args.self.now.places.items in
    let place = c.args.place in
    let e = position_from_yields_List is_some _ _ c.position.result c.position.ensures.ran
    (YieldsList-from_skip place (YieldsList-from_slice cs (cc)) (cc)) (λ x b q k. search (rules, tests)) in
    let r = first_is es cs place c.position.result e in
    sym (ap (option_map (λ n. place + n)) c.in_ok-ahead.was) ∙ r
