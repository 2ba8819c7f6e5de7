use Rattle.std.proofs.Common.{◌≡◌, ◌++◌, map, take, drop}
use Rattle.runtext.specs.Listing.{listed}
use Rattle.runtext.proofs.fill.fill.Given as goal

-- the first numbers are filled in
abbrev pub invariant-loop-place : goal.invariant-loop-place
invariant-loop-place g l =
    let ns = listed l.list.from in
    let k = l.place-index in
    (listed l.rest ≡ drop k ns) × (l.place-items ≡ map g.T.Numbered.numbered (take k ns) ++ drop k l.initial.place-items)
