-- How many turns a turn list has, where there is one.
use Rattle.std.specs.Prelude.{ℕ, Some, None, Option}

abbrev pub turn_count : Option ℕ → ℕ
turn_count None = 0
turn_count (Some n) = n
