use Rattle.std.proofs.Common.{◌≡◌, ◌+◌, ◌≤◌, length}
use Rattle.runtext.specs.Left.{pieces_left, size}
use Rattle.runtext.specs.Listing.{front, behind, above}
use Rattle.runtext.proofs.piece.Rest.list.Given as goal

abbrev pub invariant-loop-n : goal.invariant-loop-n
invariant-loop-n l =
    let all = pieces_left l.self in
    let left = pieces_left l.rest in
    (l.count + length (front left) ≡ length (front all)) × (above l.limit (front left) ≡ above 0 (front all))
    × (behind left ≡ behind all) × (l.count + size l.rest ≤ size l.self)

abbrev pub decreases-loop-n : goal.decreases-loop-n
decreases-loop-n l = size l.rest
