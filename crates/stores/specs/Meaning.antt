-- What a table store means, and when it takes no more.
use Rattle.std.specs.Prelude.{cond, List, length, Some, None, Option, nat_le}
use Rattle.basics.specs.declared.refusal.Refusal.{Refusal}
use Rattle.basics.specs.declared.refusal.Refusal.TheVariants.{LimitExceeded}
use Rattle.stores.specs.declared.table.Row.{Row}
use Rattle.stores.specs.declared.table.TableStore.{TableStore}

-- its rows, in the order of their nodes
abbrev pub rows_of : TableStore → List Row
rows_of t = t.rows.items

-- why a row is refused: there are 64 already
abbrev pub row_refusal : List Row → Option Refusal
row_refusal rows = cond (nat_le 64 (length rows)) (Some LimitExceeded) None
