use Rattle.std.proofs.Common.{◌≡◌, ◌+◌, ◌<◌, [], ◌∷◌, ◌++◌, map, length, take, drop, set, sym, ap, ◌∙◌, arith, length-drop}
use Rattle.std.proofs.lemmas.List.{append-nil, drop_all, length-map, length-take-le, map_more}
use Rattle.runtext.specs.Left.{pieces_left}
use Rattle.runtext.specs.Listing.{front, listed}
use Rattle.runtext.proofs.Filling.{filled_more, below_limit, at_front}
use Rattle.runtext.proofs.Listings.{front_first, front_none}
use Rattle.runtext.proofs.fill.fill.Goals as goal

pub unreachable-requires : goal.unreachable-requires
unfolding listed
unreachable-requires g c =
    let ns = listed c.args.list.from in
    let n = c.min-count.result in
    let k = c.loop-place.place-index in
    let full : length (take n c.args.out.now) ≡ n = length-take-le n c.args.out.now (omega arith) in
    let (none, all) = front_none (pieces_left c.loop-place.rest) c.in_default.ensures in
    omega (arith, ap length (sym none ∙ c.loop-place.invariant.0), length-drop k ns, c.args.list.counted, c.min-count.ensures, c.loop-place-test.true, c.loop-place.auto.place-items, full)

pub overflow_cast-n : goal.overflow_cast-n
unfolding listed
overflow_cast-n g c =
    let ns = listed c.args.list.from in
    let n = c.min-count.result in
    let (is, follows, small) = c.in-Some.ensures in
    let k = c.loop-place.place-index in
    let full : length (take n c.args.out.now) ≡ n = length-take-le n c.args.out.now (omega arith) in
    let inside : k < length ns = omega (arith, c.args.list.counted, c.min-count.ensures, c.loop-place-test.true, c.loop-place.auto.place-items, full) in
    let (more, on) = front_first (pieces_left c.loop-place.rest) c.in-Some.n is in
    let (here, rest) = at_front ns _ k c.in-Some.n (sym more ∙ c.loop-place.invariant.0) inside in
    omega (arith, here, below_limit 0 ns k inside, c.args.list.limited, c.requires)

pub loop-place-preserved : goal.loop-place-preserved
unfolding listed
loop-place-preserved g c =
    let ns = listed c.args.list.from in
    let count = c.min-count.result in
    let (is, follows, small) = c.in-Some.ensures in
    let k = c.loop-place.place-index in
    let n = c.in-Some.n in
    let old = take count c.args.out.now in
    let f = g.T.Numbered.numbered in
    let full : length old ≡ count = length-take-le count c.args.out.now (omega arith) in
    let inside : k < length ns = omega (arith, c.args.list.counted, c.min-count.ensures, c.loop-place-test.true, c.loop-place.auto.place-items, full) in
    let room : k < length old = omega (arith, c.loop-place-test.true, c.loop-place.auto.place-items) in
    let (more, on) = front_first (pieces_left c.loop-place.rest) n is in
    let (here, rest) = at_front ns _ k n (sym more ∙ c.loop-place.invariant.0) inside in
    let long : length (map f (take k ns)) ≡ k = length-map (take k ns) f ∙ length-take-le k ns (omega arith) in (
      ap front follows.rest ∙ rest,
      ap (λ l. set l k c.of_number.result) c.loop-place.invariant.1
          ∙ filled_more (map f (take k ns)) old k c.of_number.result long room
          ∙ ap (λ x. (map f (take k ns) ++ (x ∷ [])) ++ drop (k + 1) old) (c.of_number.ensures ∙ ap f here)
          ∙ sym (ap (λ l. l ++ drop (k + 1) old) (map_more f ns k 0 inside)),
    )

pub returns-clause-filled : goal.returns-clause-filled
returns-clause-filled g c =
    let ns = listed c.args.list.from in
    let n = c.min-count.result in
    let old = c.args.out.now in
    let k = c.loop-place.place-index in
    let f = g.T.Numbered.numbered in
    let full : length (take n old) ≡ n = length-take-le n old (omega arith) in
    let last : k ≡ n = omega (arith, c.loop-place.auto.place-items, full) in
    let whole = c.loop-place.invariant.1 ∙ ap (λ l. map f (take k ns) ++ l) (drop_all k (take n old) (omega arith)) ∙ append-nil (map f (take k ns)) in
    ap (λ l. l ++ drop n old) (whole ∙ ap (λ j. map f (take j ns)) last)
