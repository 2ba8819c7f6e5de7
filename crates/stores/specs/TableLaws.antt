-- A table is a lawful store: proofs only, nothing here has to be believed.
use Rattle.std.specs.Prelude.{ℕ, ◌≤◌, List, length, take, slice_index_or}
use Rattle.std.proofs.Common.{sym, ap, subst, inl, inr, arith, length-take}
use Rattle.std.specs.Int.Signed.{le_z_yes}
use Rattle.std.proofs.lemmas.List.{get_or-take, get_or_past}
use Rattle.std.proofs.lemmas.Bool.{cases_lt}
use Rattle.stores.specs.declared.table.Row.{Row}
use Rattle.stores.specs.declared.table.TableStore.{TableStore}
use Rattle.stores.specs.Meaning.{rows_of}
use Rattle.stores.specs.Store.{Lawful}
use Rattle.stores.specs.Table.{no_row, SmallRow, rows_store}

pub no_row_small : SmallRow no_row
no_row_small = ((le_z_yes tt, le_z_yes tt), (le_z_yes tt, le_z_yes tt), (le_z_yes tt, le_z_yes tt))

-- the first rows of a table are small where all are
pub small_rows : (count : ℕ) (rows : List Row) → ((n : ℕ) → SmallRow (slice_index_or rows n no_row)) → (n : ℕ) → SmallRow (slice_index_or (take count rows) n no_row)
small_rows count rows small n = elim (cases_lt n count) [
  | inl l ↦ subst SmallRow (sym (get_or-take count rows n no_row l)) (small n)
  | inr past ↦ subst SmallRow (sym (get_or_past (take count rows) n no_row (omega (arith, length-take count rows)))) no_row_small
]

pub table_lawful : (t : TableStore) → Lawful (rows_store (rows_of t))
table_lawful t =
    let past = λ (n : ℕ) (h : length (rows_of t) ≤ n). get_or_past (rows_of t) n no_row h in
    record {
      few = t.few;
      small_value = λ n. (t.small n).0;
      small_low = λ n. (t.small n).1;
      small_high = λ n. (t.small n).2;
      no_value = λ n h. ap (λ r. r.value) (past n h);
      no_low = λ n h. ap (λ r. r.low) (past n h);
      no_high = λ n h. ap (λ r. r.high) (past n h);
    }
