-- What a guard table means: its guards, in the order of their adding.
use Rattle.std.specs.Prelude.{List}
use Rattle.rules.specs.declared.guard.Guard.{Guard}
use Rattle.rules.specs.declared.guard.GuardTable.{GuardTable}

abbrev pub guards_of : GuardTable → List Guard
guards_of t = t.guards.items
