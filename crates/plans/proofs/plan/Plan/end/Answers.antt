use Rattle.std.proofs.Common.{◌≡◌, ◌+◌, ◌-◌, length, get_or, ap, ◌∙◌, arith}
use Rattle.plans.specs.Meaning.{nodes_of}
use Rattle.plans.specs.Nodes.{field_start}
use Rattle.plans.specs.Placed.{not_placed}
use Rattle.plans.proofs.Starts.{end_of_last, start_short}
use Rattle.plans.proofs.plan.Plan.end.Goals as goal

-- what is returned, once and for both goals
sum : (c : goal.After-from) → c.in-Some.last.now.start + c.from.result ≡ field_start (nodes_of c.args.self.now) (length (nodes_of c.args.self.now))
sum c =
    let p = c.args.self.now in
    let last = c.in-Some.last.now in
    let items = c.deref.ensures.0 in
    let is : last ≡ get_or p.nodes.items (length p.nodes.items - 1) not_placed = c.in-Some.ensures.item.3.1 not_placed ∙ ap (λ xs. get_or xs (length xs - 1) not_placed) items in
    ap (λ w. last.start + w) c.from.ensures ∙ end_of_last p.nodes.items last p.laid (omega (arith, c.in-Some.ensures.item.3.0, ap length items)) is

pub overflow_add-result : goal.overflow_add-result
overflow_add-result c =
    let p = c.args.self.now in
    let few = p.few in
    let short = start_short (nodes_of p) (length (nodes_of p)) (λ k l. p.slim k) in
    omega (arith, sum c, short)

pub returns-in-Some : goal.returns-in-Some
returns-in-Some c = sum c
