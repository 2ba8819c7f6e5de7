-- The table store: a row for each node.
use Rattle.std.specs.Prelude.{List, length, pos, slice_index_or}
use Rattle.stores.specs.declared.table.Row.{Row}
use Rattle.stores.specs.Store.{Store, Small}

-- what stands at a number that no row has
abbrev pub no_row : Row
no_row = record { value = pos 0; low = pos 0; high = pos 0 }

-- value and range have at most 16 bits, signed
abbrev pub SmallRow : Row → Type 0
SmallRow r = Small r.value × Small r.low × Small r.high

-- a store whose nodes are these rows
abbrev pub rows_store : List Row → Store
rows_store rows = record {
  count = length rows;
  values = λ n. (slice_index_or rows n no_row).value;
  low = λ n. (slice_index_or rows n no_row).low;
  high = λ n. (slice_index_or rows n no_row).high;
}
