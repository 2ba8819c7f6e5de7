use Rattle.std.proofs.Common.{◌≡◌, true, sym, ap, ◌∙◌, arith, w32, to_z, of_z}
use Rattle.std.proofs.lemmas.Int.{to_z-of_z}
use Rattle.std.proofs.lemmas.Bool.{cond-true}
use Rattle.plans.specs.Meaning.{nodes_of}
use Rattle.plans.specs.Nodes.{field_start}
use Rattle.stores.specs.Store.{may_put, set_value}
use Rattle.image_model.specs.Image.{image_bit, with_field, bits_of}
use Rattle.image_model.specs.Fields.{image_store, fits}
use Rattle.image_model.specs.ImageLaws.{plan_wide}
use Rattle.image_model.proofs.Complement.{bits_small, bits_back}
use Rattle.image_model.proofs.Places.{put_field, takes_field}
use Rattle.images.proofs.packed.PackedStoreNodeStore.put.Goals as goal

pub write-requires-clause-small : goal.write-requires-clause-small
write-requires-clause-small c =
    let w = c.in-Some.field.width in
    omega (arith, c.twos_complement.ensures, bits_small w.bits (to_z w32 (of_z w32 c.args.v)) w.wide (sym c.if-not-fits.ensures))

-- here and below: the bits that are written go by the number alone, in whatever form they are made
pub returns-clause-leaves : goal.returns-clause-leaves
returns-clause-leaves c =
    let s = c.args.self.now in
    let nodes = nodes_of s.plan.now in
    let image = s.image.now in
    let n = c.args.n.0 in
    let v = c.args.v in
    let f = c.in-Some.field in
    let w = f.width.bits in
    let lies = c.in-Some.ensures.lies in
    let same = to_z-of_z w32 v c.ranges.v in
    let fit : fits w v ≡ true = ap (fits w) (sym same) ∙ sym c.if-not-fits.ensures in
    let bits : c.twos_complement.result ≡ bits_of w v = c.twos_complement.ensures ∙ ap (bits_of w) same in
    let taken : may_put (image_store nodes image) n v ≡ true = takes_field nodes image n f.start w v lies ∙ fit in
    put_field nodes image c.write.new.image n f.start w (bits_of w v) v (plan_wide s.plan.now) lies c.write.auto.image (bits_small w v f.width.wide fit) (bits_back w v f.width.wide fit)
    (λ i. c.write.ensures i ∙ ap (λ u. with_field (image_bit image) f.start w u i) (omega (arith, bits)))
    ∙ sym (cond-true (may_put (image_store nodes image) n v) (set_value (image_store nodes image) n v) (image_store nodes image) taken)

pub returns-clause-bits : goal.returns-clause-bits
returns-clause-bits c = λ i.
    let s = c.args.self.now in
    let nodes = nodes_of s.plan.now in
    let row = image_bit s.image.now in
    let f = c.in-Some.field in
    let w = f.width.bits in
    let lies = c.in-Some.ensures.lies in
    let bits : c.twos_complement.result ≡ bits_of w c.args.v = c.twos_complement.ensures ∙ ap (bits_of w) (to_z-of_z w32 c.args.v c.ranges.v) in
    c.write.ensures i
    ∙ ap (λ u. with_field row f.start w u i) (omega (arith, bits))
    ∙ ap (λ a. with_field row a w (bits_of w c.args.v) i) lies.starts
    ∙ ap (λ m. with_field row (field_start nodes c.args.n.0) m (bits_of m c.args.v) i) lies.spans
