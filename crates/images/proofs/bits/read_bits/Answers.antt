use Rattle.std.proofs.Common.{◌≡◌, ◌+◌, ◌-◌, ◌*◌, ◌/◌, ◌%◌, ◌^◌, ◌<◌, ◌≤◌, get_or, drop, sym, ap, ◌∙◌, mod-eq_of_lt, pow_mono, arith, length-take}
use lib.Bits.{bit_or}
use Rattle.std.proofs.lemmas.Nat.{or_shifted, shl_below}
use Rattle.std.proofs.lemmas.List.{get_or-take, get_or-drop}
use Rattle.image_model.specs.Image.{image_bit, number}
use Rattle.image_model.specs.ImageLaws.{number_lt}
use Rattle.image_model.proofs.Numbers.{number_split, number_byte}
use Rattle.images.proofs.bits.read_bits.Goals as goal

pub loop-byte-preserved : goal.loop-byte-preserved
loop-byte-preserved c =
    let image = c.args.image.now in
    let row = image_bit image in
    let at = c.args.at in
    let count = c.div_ceil.result - c.from-3.result in
    let rest = drop c.from-3.result image in
    let i = c.loop-byte.byte-index in
    let k = at / 8 + i in
    let from = c.loop-byte.from in
    let take = c.min-take.result in
    let left = 8 - from % 8 - take in
    let so_far = c.loop-byte.number in
    let byte = c.from-in-loop-byte.result in
    let piece = c.piece_of.result in
    let below : i < count = omega (arith, length-take count rest) in
    let here : 8 * k + from % 8 ≡ from = omega arith in
    let is : byte ≡ get_or image k 0 = c.from-in-loop-byte.ensures ∙ get_or-take count rest i 0 below ∙ get_or-drop c.from-3.result image i 0 ∙ ap (λ f. get_or image (f + i) 0) c.from-3.ensures in
    let read : piece ≡ number row from take =
    c.piece_of.ensures
    ∙ ap (λ s. byte / 2 ^ s % 2 ^ take) (omega arith)
    ∙ ap (λ b. b / 2 ^ left % 2 ^ take) is
    ∙ sym (number_byte image k (from % 8) take (omega arith))
    ∙ ap (λ a. number row a take) here in
    let few : from - at + take ≤ 16 = omega arith in
    let top : 2 ^ (from - at + take) ≤ 2 ^ 16 = pow_mono few in
    let less : so_far < 2 ^ (from - at) = omega (arith, c.loop-byte.invariant.read, number_lt row at (from - at)) in
    let small : so_far * 2 ^ take < 4294967296 = omega (arith, top, shl_below so_far (from - at) take less) in
    let next : from ≡ at + (from - at) = omega arith in
    let more : from - at + take ≡ from + take - at = omega arith in
    record {
      place = omega arith;
      read =
          ap (λ n. bit_or n piece) (mod-eq_of_lt small)
          ∙ or_shifted so_far take piece (omega (arith, read, number_lt row from take))
          ∙ ap (λ n. n * 2 ^ take + piece) c.loop-byte.invariant.read
          ∙ ap (λ p. number row at (from - at) * 2 ^ take + p) (read ∙ ap (λ a. number row a take) next)
          ∙ sym (number_split row at (from - at) take)
          ∙ ap (number row at) more;
    }
