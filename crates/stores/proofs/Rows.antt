-- Rows of a table, one of them changed.
use Rattle.std.proofs.Common.{◌≡◌, ℕ, ◌<◌, cond, eqb, List, length, get_or, set, ℤ, sym, refl, inl, inr, length-set, get_or-set_other, get_or-set_same}
use Rattle.std.proofs.lemmas.Bool.{cases_eq, eq-eqb, ne_eqb, cond-true, cond-false}
use Rattle.stores.specs.declared.table.Row.{Row}
use Rattle.stores.specs.Store.{set_value}
use Rattle.stores.specs.Table.{no_row, rows_store}
use Rattle.stores.proofs.Stores.{same_store}

-- what holds of every row and of a new one holds when the new one is put among them
pub each_row : (P : Row → Type 0) (rows : List Row) (i : ℕ) (new : Row) → i < length rows → ((n : ℕ) → P (get_or rows n no_row)) → P new → (n : ℕ) → P (get_or (set rows i new) n no_row)
each_row P rows i new l old here n = elim (cases_eq n i) [
  | inl q ↦ rw (q, get_or-set_same) here
  | inr ne ↦ rw get_or-set_other (old n)
]

abbrev pub with_value : Row → ℤ → Row
with_value r v = record { value = v; low = r.low; high = r.high }

-- a put changes one value of the store
pub put_row : (rows : List Row) (i : ℕ) (v : ℤ) → i < length rows → rows_store (set rows i (with_value (get_or rows i no_row) v)) ≡ set_value (rows_store rows) i v
put_row rows i v room = same_store _ _
    (length-set rows i new)
    values
    (kept (λ r. r.low) refl)
    (kept (λ r. r.high) refl)
  where
    new : Row
    new = with_value (get_or rows i no_row) v

    values : (n : ℕ) → (get_or (set rows i new) n no_row).value ≡ cond (eqb n i) v (get_or rows n no_row).value
    values n = elim (cases_eq n i) [
      | inl q ↦ rw (q, get_or-set_same) (sym (cond-true (eqb i i) v _ (eq-eqb i i refl)))
      | inr ne ↦ rw get_or-set_other (sym (cond-false (eqb n i) v _ (ne_eqb n i ne)))
    ]

    kept : (f : Row → ℤ) → f new ≡ f (get_or rows i no_row) → (n : ℕ) → f (get_or (set rows i new) n no_row) ≡ f (get_or rows n no_row)
    kept f same n = elim (cases_eq n i) [
      | inl q ↦ rw (q, get_or-set_same) same
      | inr ne ↦ rw get_or-set_other refl
    ]
