use Rattle.std.proofs.Common.{◌≡◌, ℕ, ◌-◌, ◌*◌, ◌%◌, ◌<◌, cond, ltb, ◌++◌, length, get_or, drop, pos, None, true, sym, refl, ap, ◌∙◌, arith, w8, w32, Fits, SFits, rules, to_z, of_z}
use Rattle.std.proofs.lemmas.Int.{to_z-of_z}
use Rattle.std.proofs.lemmas.List.{length_push}
use Rattle.std.specs.Iterator.Adapters.{zip_first, zip_second}
use Rattle.std.specs.Slice.Iter.{iter_rest}
use Rattle.basics.specs.Refusals.{leave_unless}
use Rattle.plans.specs.Meaning.{nodes_of}
use Rattle.plans.specs.Nodes.{node_at, field_start}
use Rattle.image_model.specs.Image.{image_bit, with_field, bits_of}
use Rattle.image_model.specs.Fields.{fits, all_fit, packed, packed_bit, plan_bits, plan_bytes, pack_refusal}
use Rattle.image_model.specs.ImageLaws.{plan_wide}
use Rattle.image_model.proofs.Complement.{bits_small}
use Rattle.image_model.proofs.Packing.{Long, not_refused, may_pack, fit_at, pack_step, pack_end, image_is, unpack_packed}
use Rattle.images.proofs.Numbered.{Turn, numbered_turn, numbered_end}
use Rattle.images.proofs.pack.pack.Goals as goal
use Rattle.images.proofs.pack.pack.Goals.{In-Some, After-write_bits}

-- what one turn packs
turn : (c : In-Some) → Turn c.count.result c.args.values.now (length c.loop-n.yielded) (c.in-Some.n, c.in-Some.field-0-1)
turn c = numbered_turn c.count.result c.args.values.now c.into_iter-n-iterator.result
    (ap zip_first c.into_iter-n-iterator.ensures.into_iter_gives ∙ c.zip-n-items.ensures.first)
    (ap (λ z. iter_rest (zip_second z)) c.into_iter-n-iterator.ensures.into_iter_gives ∙ c.zip-n-items.ensures.second.0)
    c.loop-n.yielded c.loop-n.n-iterator c.next.new.self c.next.result c.loop-n.yielded_by (c.in-Some.n, c.in-Some.field-0-1) c.in-Some.is c.next.ensures.steps

pub of-field-requires : goal.of-field-requires
of-field-requires c = let now = turn (goal.at.of-field-requires c).In-Some in omega (arith, now.below, now.number, c.count.ensures)

-- nothing was refused, so the buffers are long enough and the values fit
allowed : (c : In-Some) → Long (nodes_of c.args.plan.now) (length c.args.values.now) (length c.args.image.now) × (all_fit (nodes_of c.args.plan.now) c.args.values.now ≡ true)
allowed c = may_pack (nodes_of c.args.plan.now) c.args.values.now (length c.args.image.now) (not_refused _ tt _ (sym c.check_pack.ensures ∙ c.in_ok-check_pack.was))

pub write-requires-clause-inside : goal.write-requires-clause-inside
write-requires-clause-inside c =
    let (long, _) = allowed (goal.at.write-requires-clause-inside c).In-Some in
    omega (arith, c.of-field.ensures.inside, long.image_long, c.loop-n.auto.image)

-- so the value of this turn fits its field, of w bits
fits_field : (c : In-Some) (w : ℕ) → SFits w32 c.in-Some.field-0-1.now → w ≡ (node_at (nodes_of c.args.plan.now) c.in-Some.n).width → fits w (to_z w32 (of_z w32 c.in-Some.field-0-1.now)) ≡ true
fits_field c w small wide =
    let nodes = nodes_of c.args.plan.now in
    let vs = c.args.values.now in
    let k = length c.loop-n.yielded in
    let now = turn c in
    let (long, fit) = allowed c in
    let below : k < length nodes = omega (arith, now.below, c.count.ensures) in
    ap (λ m. fits m (to_z w32 (of_z w32 c.in-Some.field-0-1.now))) (wide ∙ ap (λ n. (node_at nodes n).width) now.number)
    ∙ ap (fits (node_at nodes k).width) (to_z-of_z w32 c.in-Some.field-0-1.now small ∙ now.value)
    ∙ fit_at nodes vs k fit below now.within

pub twos_complement-requires : goal.twos_complement-requires
twos_complement-requires c = fits_field (goal.at.twos_complement-requires c).In-Some _ (search rules) c.of-field.ensures.width

pub write-requires-clause-small : goal.write-requires-clause-small
write-requires-clause-small c =
    let w = c.of-field.result.width in
    omega (arith, c.twos_complement.ensures, bits_small w.bits (to_z w32 (of_z w32 c.in-Some.field-0-1.now)) w.wide (fits_field (goal.at.write-requires-clause-small c).In-Some w.bits (search rules) c.of-field.ensures.width))

pub loop-n-preserved : goal.loop-n-preserved
loop-n-preserved c =
    let nodes = nodes_of c.args.plan.now in
    let vs = c.args.values.now in
    let row = image_bit c.loop-n.image in
    let k = length c.loop-n.yielded in
    let w = (node_at nodes k).width in
    let v = get_or vs k (pos 0) in
    let now = turn (goal.at.loop-n-preserved c).In-Some in
    let small : SFits w32 c.in-Some.field-0-1.now = search rules in
    let below : k < length nodes = omega (arith, now.below, c.count.ensures) in
    let start : c.of-field.result.start ≡ field_start nodes k = c.of-field.ensures.start ∙ ap (field_start nodes) now.number in
    let width : c.of-field.result.width.bits ≡ w = c.of-field.ensures.width ∙ ap (λ n. (node_at nodes n).width) now.number in
    let value : to_z w32 (of_z w32 c.in-Some.field-0-1.now) ≡ v = to_z-of_z w32 c.in-Some.field-0-1.now small ∙ now.value in
    let bits : c.twos_complement.result ≡ bits_of w v = c.twos_complement.ensures ∙ ap (λ m. bits_of m (to_z w32 (of_z w32 c.in-Some.field-0-1.now))) width ∙ ap (bits_of w) value in
    record {
      can_next = (tt, tt);
      is_finite = tt;
      packed = λ i.
          pack_step nodes vs row (image_bit c.write.new.image) (image_bit c.args.image.now) k (bits_of w v) below now.within refl c.loop-n.invariant.packed (λ j.
          c.write.ensures j
          ∙ ap (λ a. with_field row a c.of-field.result.width.bits c.twos_complement.result j) start
          ∙ ap (λ m. with_field row (field_start nodes k) m c.twos_complement.result j) width
          ∙ ap (λ u. with_field row (field_start nodes k) w u j) bits) i
          ∙ ap (λ m. cond (ltb i (field_start nodes m)) (packed_bit nodes vs i) (image_bit c.args.image.now i)) (sym (length_push c.loop-n.yielded (c.in-Some.n, c.in-Some.field-0-1)));
    }

none : (c : After-write_bits) → pack_refusal (nodes_of c.args.plan.now) c.args.values.now (length c.args.image.now) ≡ None
none c = not_refused _ tt _ (sym c.check_pack.ensures ∙ c.in_ok-check_pack.was)

-- all fields are packed, and the spare bits cleared
done : (c : After-write_bits) → (i : ℕ) → image_bit c.write_bits.new.image i ≡ cond (ltb i (8 * plan_bytes (nodes_of c.args.plan.now))) (packed_bit (nodes_of c.args.plan.now) c.args.values.now i) (image_bit c.args.image.now i)
done c i =
    let nodes = nodes_of c.args.plan.now in
    let vs = c.args.values.now in
    let row = image_bit c.loop-n.image in
    let first = image_bit c.args.image.now in
    let end = c.start-end.result in
    let spare = (8 - plan_bits nodes % 8) % 8 in
    let all : end ≡ plan_bits nodes = c.start-end.ensures ∙ ap (field_start nodes) c.count-2.ensures in
    let past : c.spare_after-spare.result ≡ spare = omega (arith, c.spare_after-spare.ensures, c.from.ensures, all) in
    let (long, _) = may_pack nodes vs (length c.args.image.now) (none c) in
    let turns = numbered_end c.count.result vs c.into_iter-n-iterator.result
    (ap zip_first c.into_iter-n-iterator.ensures.into_iter_gives ∙ c.zip-n-items.ensures.first)
    (ap (λ z. iter_rest (zip_second z)) c.into_iter-n-iterator.ensures.into_iter_gives ∙ c.zip-n-items.ensures.second.0)
    c.loop-n.yielded c.loop-n.n-iterator c.next.new.self c.next.result c.loop-n.yielded_by c.in-None.is c.next.ensures.steps in
    let last : length c.loop-n.yielded ≡ length nodes = omega (arith, turns, c.count.ensures, long.values_long) in
    pack_end nodes vs row (image_bit c.write_bits.new.image) first spare (omega arith)
    (λ j. c.loop-n.invariant.packed j ∙ ap (λ m. cond (ltb j (field_start nodes m)) (packed_bit nodes vs j) (first j)) last)
    (λ j. c.write_bits.ensures j ∙ ap (λ a. with_field row a c.spare_after-spare.result 0 j) all ∙ ap (λ s. with_field row (plan_bits nodes) s 0 j) past) i

pub returns-clause-bytes : goal.returns-clause-bytes
returns-clause-bytes c =
    let nodes = nodes_of c.args.plan.now in
    let vs = c.args.values.now in
    let first = c.args.image.now in
    let no = none (goal.at.returns-clause-bytes c).After-write_bits in
    let (long, _) = may_pack nodes vs (length first) no in
    let small : (k : ℕ) → Fits w8 (get_or first k 0) = search rules in
    image_is c.write_bits.new.image first (packed_bit nodes vs) (plan_bytes nodes) (λ k. (c.type_inv.image k).fits) (λ k. (small k).fits) (c.write_bits.auto.image ∙ c.loop-n.auto.image) long.image_long (done (goal.at.returns-clause-bytes c).After-write_bits)
    ∙ ap (λ r. leave_unless r first (packed nodes vs ++ drop (plan_bytes nodes) first)) (sym no)

pub returns-clause-back : goal.returns-clause-back
returns-clause-back c = λ no.
    let nodes = nodes_of c.args.plan.now in
    let vs = c.args.values.now in
    let (long, fit) = may_pack nodes vs (length c.args.image.now) no in
    unpack_packed nodes vs c.write_bits.new.image (image_bit c.args.image.now) (plan_wide c.args.plan.now) fit long.values_long (done (goal.at.returns-clause-back c).After-write_bits) (length nodes) (omega arith)
