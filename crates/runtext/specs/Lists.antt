-- A list of numbers that is found.
use Rattle.std.specs.Prelude.{◌≡◌}
use Rattle.runtext.specs.declared.numbers.Numbers.{Numbers}
use Rattle.runtext.specs.declared.piece.Rest.{Rest}
use Rattle.runtext.specs.Left.{pieces_left}
use Rattle.runtext.specs.Listing.{behind}

-- the list that stands first, and what is left after it
abbrev pub ListFound : Rest → Numbers × Rest → Type 0
ListFound r x = (x.0.from ≡ r) × (pieces_left x.1 ≡ behind (pieces_left r))
