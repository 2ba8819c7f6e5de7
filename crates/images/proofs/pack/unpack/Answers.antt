use Rattle.std.proofs.Common.{◌≡◌, ◌≤◌, ◌++◌, length, drop, sym, ap, ◌∙◌, arith, length-take}
use Rattle.std.proofs.lemmas.List.{take_all}
use Rattle.plans.specs.Meaning.{nodes_of}
use Rattle.image_model.specs.Fields.{unpacked, packed}
use Rattle.image_model.specs.ImageLaws.{plan_wide}
use Rattle.image_model.proofs.Packing.{not_refused, may_unpack, pack_unpacked}
use Rattle.images.proofs.pack.unpack.Goals as goal

pub read-requires : goal.read-requires
read-requires c =
    let long = may_unpack (nodes_of c.args.plan.now) (length c.args.values.now) (length c.args.image.now) (not_refused _ tt _ (sym c.check_long.ensures ∙ c.in_ok-check_long.was)) in
    omega (arith, c.of.ensures.inside, long.image_long)

pub returns-clause-back : goal.returns-clause-back
returns-clause-back c = λ no.
    let nodes = nodes_of c.args.plan.now in
    let n = c.loop-n.n in
    let items = c.loop-n.value-items in
    let values = c.args.values.now in
    let image = c.args.image.now in
    let rest = drop c.from-count.result values in
    let long = may_unpack nodes (length values) (length image) no in
    let last : n ≡ length nodes = omega (arith, long.values_long, length-take c.from-count.result values) in
    let whole : length items ≤ n = omega (arith, c.loop-n.auto.value-items) in
    let read : items ≡ unpacked nodes image (length nodes) = sym (take_all n items whole) ∙ c.loop-n.invariant ∙ ap (unpacked nodes image) last in
    ap (λ xs. packed nodes (xs ++ rest)) read ∙ pack_unpacked nodes image rest (plan_wide c.args.plan.now)
