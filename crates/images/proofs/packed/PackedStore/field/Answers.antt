use Rattle.std.proofs.Common.{◌+◌, ◌*◌, ◌<◌, length, sym, ◌∙◌, arith}
use Rattle.std.proofs.lemmas.Bool.{le-leb, lt-leb}
use Rattle.plans.specs.Meaning.{nodes_of}
use Rattle.plans.specs.Nodes.{node_at, field_start}
use Rattle.image_model.proofs.Places.{leading_field, leading_past}
use Rattle.images.proofs.packed.PackedStore.field.Goals as goal

pub returns-then-n-count : goal.returns-then-n-count
returns-then-n-count c =
    let s = c.args.self.now in
    record {
      some = sym (leading_past (nodes_of s.plan.now) (8 * length s.image.now) c.args.n.0 (omega arith));
      lies = tt;
    }

pub returns-then-div_ceil-self : goal.returns-then-div_ceil-self
returns-then-div_ceil-self c =
    let s = c.args.self.now in
    let nodes = nodes_of s.plan.now in
    let n = c.args.n.0 in
    let node : n < length nodes = omega arith in
    let leads = leading_field nodes (8 * length s.image.now) n node ∙ le-leb (field_start nodes n + (node_at nodes n).width) (8 * length s.image.now) (omega arith) in
    record {
      some = sym leads;
      lies = record {
        leads = leads;
        node = node;
        starts = c.of-field.ensures.start;
        spans = c.of-field.ensures.width;
        wide = omega arith;
        slim = omega arith;
        near = omega arith;
        inside = omega arith;
      };
    }

pub returns-else-div_ceil-self : goal.returns-else-div_ceil-self
returns-else-div_ceil-self c =
    let s = c.args.self.now in
    let nodes = nodes_of s.plan.now in
    let n = c.args.n.0 in
    let node : n < length nodes = omega arith in
    record {
      some = sym (leading_field nodes (8 * length s.image.now) n node ∙ lt-leb (field_start nodes n + (node_at nodes n).width) (8 * length s.image.now) (omega arith));
      lies = tt;
    }
