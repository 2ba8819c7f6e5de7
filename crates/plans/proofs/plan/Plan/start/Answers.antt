use Rattle.std.proofs.Common.{◌≤◌, length, sym, ◌∙◌, arith, rules}
use Rattle.std.proofs.lemmas.List.{length-map}
use Rattle.plans.specs.Meaning.{nodes_of}
use Rattle.plans.specs.Placed.{node_of}
use Rattle.plans.proofs.Starts.{start_past}
use Rattle.plans.proofs.plan.Plan.start.Goals as goal

pub returns-in-None : goal.returns-in-None
returns-in-None c =
    let p = c.args.self.now in
    let inside : length p.nodes.items ≤ c.args.n.0 = search rules in
    let past : length (nodes_of p) ≤ c.args.n.0 = omega (arith, length-map p.nodes.items node_of) in
    c.end.ensures ∙ sym (start_past (nodes_of p) c.args.n.0 past)
