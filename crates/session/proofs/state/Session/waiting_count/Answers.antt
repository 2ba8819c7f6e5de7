use Rattle.std.proofs.Common.{◌≡◌, ◌∙◌, ap, take, arith, rules}
use Rattle.std.proofs.iter.runs.Made.{chains}
use Rattle.std.specs.List.{count_by}
use Rattle.basics.specs.Sets.{counted}
use Rattle.model.specs.Checks.{is_waiting}
use Rattle.model.specs.State.{phase}
use Rattle.session.specs.Of.{model_of}
use Rattle.session.proofs.Listing.{waiters_counted, waiters_le}
use Rattle.session.proofs.state.Session.waiting_count.Goals as goal

pub overflow_cast-result : goal.overflow_cast-result
overflow_cast-result g c =
    let s = c.args.self.now in
    let n = c.begun_count-n.result in
    let chain : c.count.result ≡ count_by (λ r. is_waiting r.phase) (take n s.records) = search (rules, chains) in
    omega (arith, waiters_counted s.records n (omega arith), waiters_le (phase (model_of g.R.LockRule.rule g.S.NodeStore.store s)) n)

pub returns : goal.returns
returns g c =
    let s = c.args.self.now in
    let n = c.begun_count-n.result in
    let chain : c.count.result ≡ count_by (λ r. is_waiting r.phase) (take n s.records) = search (rules, chains) in
    chain ∙ waiters_counted s.records n (omega arith) ∙ ap (counted (λ t. is_waiting (phase (model_of g.R.LockRule.rule g.S.NodeStore.store s) t))) c.begun_count-n.ensures
