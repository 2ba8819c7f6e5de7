use Rattle.std.proofs.Common.{◌≡◌, ◌<◌, true, length, rules}
use Rattle.std.proofs.lemmas.List.Elements.{All-push}
use Rattle.plans.specs.Meaning.{nodes_of}
use Rattle.rules.specs.Guards.{fits}
use Rattle.rules.specs.Parents.{parents_in}
use Rattle.rules.proofs.Crossing.{cross_more}
use Rattle.rules.proofs.guard.GuardTable.add.Goals as goal

pub invariant_of-self-clause-known : goal.invariant_of-self-clause-known
invariant_of-self-clause-known c =
    let nodes = nodes_of c.args.self.now.plan in
    rw c.push.ensures.items (All-push (λ g. g.node.0 < length nodes) _ _ c.args.self.now.known (search rules))

pub invariant_of-self-clause-fit : goal.invariant_of-self-clause-fit
invariant_of-self-clause-fit c =
    let nodes = nodes_of c.args.self.now.plan in
    rw c.push.ensures.items (All-push (λ g. fits (parents_in nodes g.node.0) g ≡ true) _ _ c.args.self.now.fit (search rules))

pub invariant_of-self-clause-cross : goal.invariant_of-self-clause-cross
invariant_of-self-clause-cross c =
    let nodes = nodes_of c.args.self.now.plan in
    rw c.push.ensures.items (cross_more _ _ (parents_in nodes c.args.node.0) (search rules) c.args.self.now.cross (search rules))
