use Rattle.std.proofs.Common.{◌≤◌, subst}
use Rattle.std.proofs.lemmas.Bool.{cond-false, le-ltb}
use Rattle.graph.specs.Walks.{Reached}
use Rattle.model.specs.Order.{predecessors}
use Rattle.model.specs.State.{begun_count}
use Rattle.session.specs.Edges.{reported, edge_to}
use Rattle.session.specs.Of.{model_of}
use Rattle.session.specs.Reports.{AllBefore}
use Rattle.session.proofs.Walking.{same_reached, none_reached}
use Rattle.session.proofs.state.Session.before.Goals as goal

pub returns : goal.returns
returns g c =
    let m = model_of g.R.LockRule.rule g.S.NodeStore.store c.args.self.now in
    let t = c.args.t.0 in
    let p = c.predecessors-all.result in
    let found = subst (λ x. Reached (edge_to p) x c.reach.result.mask) c.at.ensures c.reach.ensures in
    let all : AllBefore m t c.reach.result.mask = same_reached (reported p) (predecessors m) t c.reach.result.mask c.predecessors-all.ensures.reports found in
    record {
      chains = all;
      unbegun = λ (h : begun_count m ≤ t). none_reached (predecessors m) t c.reach.result.mask (cond-false _ _ _ (le-ltb t (begun_count m) h)) all;
    }
