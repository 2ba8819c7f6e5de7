use Rattle.std.proofs.Common.{◌≡◌, ℕ, Bool, true, false, Some, None, sym, ap, ◌∙◌, rules}
use Rattle.std.proofs.lemmas.Iterator.{first_from_Range}
use Rattle.std.specs.Option.{option_map}
use Rattle.model.specs.Order.{predecessors, ready, lowest}
use Rattle.session.specs.Of.{model_of}
use Rattle.session.proofs.Lowest.{lowest_first}
use Rattle.session.proofs.state.Session.lowest.Goals as goal

pub returns-in_err-t : goal.returns-in_err-t
returns-in_err-t g c =
    let p : ℕ → Bool = ready (predecessors (model_of g.R.LockRule.rule g.S.NodeStore.store c.args.self.now)) c.args.placed.mask in
    let none : c.find.result ≡ None = search rules in
    let gone : c.from_residual.result ≡ None = search rules in
    let first = lowest_first p c.begun_count.result c.find.result (first_from_Range _ _ _ _ (λ i. p i ≡ true) (λ i. p i ≡ false) c.find.ensures.ran (λ x q k. search rules) (λ x q k. search rules)) in
    ap (option_map (λ t. t.0)) gone ∙ (sym none ∙ (first ∙ ap (lowest p) c.begun_count.ensures))

pub returns : goal.returns
returns g c =
    let p : ℕ → Bool = ready (predecessors (model_of g.R.LockRule.rule g.S.NodeStore.store c.args.self.now)) c.args.placed.mask in
    let some : c.find.result ≡ Some c.in_ok-t.t = search rules in
    let first = lowest_first p c.begun_count.result c.find.result (first_from_Range _ _ _ _ (λ i. p i ≡ true) (λ i. p i ≡ false) c.find.ensures.ran (λ x q k. search rules) (λ x q k. search rules)) in
    sym some ∙ (first ∙ ap (lowest p) c.begun_count.ensures)
