use Rattle.std.proofs.Common.{◌≡◌, ℕ, ◌+◌, ◌-◌, ◌*◌, ◌%◌, ◌^◌, ◌<◌, ◌≤◌, cond, ◌&&◌, ltb, length, get_or, take, drop, ap, ◌∙◌, mod-eq_of_lt, pow_mono, pow_pos, arith, length-take, length-drop}
use Rattle.std.proofs.lemmas.Nat.{shl_below}
use Rattle.basics.specs.Sets.{has}
use Rattle.image_model.specs.Image.{image_bit, with_field}
use Rattle.image_model.proofs.Patches.{run_step, run_end, run_within}
use Rattle.images.proofs.bits.write_bits.Goals as goal

-- no bit of a shifted run is lost
whole_run : (u width spare : ℕ) → width ≤ 16 → spare < 8 → u < 2 ^ width → u * 2 ^ spare % 2 ^ 32 ≡ u * 2 ^ spare
whole_run u width spare slim less small =
    let b = shl_below u width spare small in
    let few : width + spare ≤ 31 = omega arith in
    let p : 2 ^ (width + spare) ≤ 2 ^ 31 = pow_mono few in
    mod-eq_of_lt (omega arith)

pub loop-k-preserved : goal.loop-k-preserved
loop-k-preserved c =
    let count = c.div_ceil.result - c.from-3.result in
    let part = take count (drop c.from-3.result c.args.image.now) in
    let bytes = c.loop-k.bytes in
    let k = c.loop-k.k in
    let last = length part in
    let long : last ≡ count = omega (arith, length-take count (drop c.from-3.result c.args.image.now), length-drop c.from-3.result c.args.image.now) in
    let width = c.args.width in
    let u = c.args.bits in
    let spare = c.spare_after-spare.result in
    let less : spare < 8 = omega arith in
    let ones : c.ones.result < 2 ^ width = omega (arith, pow_pos width) in
    let mask : c.ones.result * 2 ^ spare % 2 ^ 32 ≡ (2 ^ width - 1) * 2 ^ spare = whole_run c.ones.result width spare c.requires.slim less ones ∙ ap (λ m. m * 2 ^ spare) c.ones.ensures in
    let run = whole_run u width spare c.requires.slim less c.requires.small in
    let patched : (p : ℕ) → has c.patched.result p ≡ cond (ltb p 8 && has ((2 ^ width - 1) * 2 ^ spare) (8 * (last - 1 - k) + p)) (ltb p 8 && has (u * 2 ^ spare) (8 * (last - 1 - k) + p)) (has (get_or bytes k 0) p) = λ p.
    let old = has (get_or bytes k 0) p in
    c.patched.ensures p
    ∙ ap (λ b. cond b (has c.byte_of-in-loop-k.result p) old) (c.byte_of.ensures p ∙ ap (λ m. ltb p 8 && has m (8 * (last - 1 - k) + p)) mask)
    ∙ ap (λ b. cond (ltb p 8 && has ((2 ^ width - 1) * 2 ^ spare) (8 * (last - 1 - k) + p)) b old) (c.byte_of-in-loop-k.ensures p ∙ ap (λ m. ltb p 8 && has m (8 * (last - 1 - k) + p)) run) in
    run_step part bytes (c.args.at % 8) width u spare last k c.patched.result (omega arith) (omega arith) (omega arith) patched c.loop-k.invariant

pub returns : goal.returns
returns c =
    let image = c.args.image.now in
    let from = c.from-3.result in
    let count = c.div_ceil.result - from in
    let part = take count (drop from image) in
    let at = c.args.at in
    let width = c.args.width in
    let u = c.args.bits in
    let long : length part ≡ count = omega (arith, length-take count (drop from image), length-drop from image) in
    let all : c.loop-k.k ≡ count = omega arith in
    let offset : at % 8 ≡ at - 8 * from = omega arith in
    run_within image c.loop-k.bytes from count at width u (omega arith) (omega arith) (omega arith) (omega (arith, c.loop-k.auto.bytes)) (λ i.
    c.loop-k.invariant i
    ∙ ap (λ k. cond (ltb i (8 * k)) (with_field (image_bit part) (at % 8) width u i) (image_bit part i)) all
    ∙ run_end (image_bit part) (at % 8) width u count i (omega arith)
    ∙ ap (λ o. with_field (image_bit part) o width u i) offset)
