use Rattle.std.proofs.Common.{ℕ, Bool, ◌&&◌, ltb, leb, length, sym, ap, ◌∙◌, ap₂}
use Rattle.plans.specs.Meaning.{nodes_of}
use Rattle.rules.specs.Meaning.{guards_of}
use Rattle.runtext.specs.Listing.{listed}
use Rattle.runtext.proofs.Limits.{all_below_its_limit}
use Rattle.runtext.proofs.nodes.in_limits.Goals as goal

pub returns : goal.returns
returns c =
    let form = c.args.form in
    let nodes = nodes_of c.args.table.now.plan in
    ap₂ (λ (g k : ℕ). ltb g 256 && (ltb form.node k && (leb form.a.limit k && leb form.b.limit k))) c.count.ensures c.node_count-count.ensures
    ∙ ap₂ (λ (x y : Bool). ltb (length (guards_of c.args.table.now)) 256 && (ltb form.node (length nodes) && (x && y)))
    (ap (λ m. leb m (length nodes)) form.a.limited ∙ sym (all_below_its_limit (length nodes) (listed form.a.from)))
    (ap (λ m. leb m (length nodes)) form.b.limited ∙ sym (all_below_its_limit (length nodes) (listed form.b.from)))
