use Rattle.std.proofs.Common.{◌≡◌, ◌<◌, true, length, get_or, set, sym, ap, ◌∙◌, subst, rules, w16, to_z, of_z}
use Rattle.std.proofs.lemmas.Bool.{cond-true}
use Rattle.stores.specs.Meaning.{rows_of}
use Rattle.stores.specs.Store.{may_put, set_value}
use Rattle.stores.specs.Table.{no_row, rows_store, SmallRow}
use Rattle.stores.proofs.Rows.{each_row, put_row, with_value}
use Rattle.stores.proofs.table_store.TableStoreNodeStore.put.Goals as goal

pub invariant_of-self-2 : goal.invariant_of-self-2
invariant_of-self-2 c =
    let t = c.args.self.now in
    let i = c.from.result in
    let row-is : c.in-Some.row.now ≡ get_or t.rows.items i no_row = c.in-Some.ensures.item.3.1 no_row in
    let kept = subst SmallRow (sym row-is) (t.small i) in
    record {
      few = search rules;
      small = each_row SmallRow t.rows.items i _ (search rules) t.small ((search rules), kept.1, kept.2);
    }

pub returns-clause-leaves : goal.returns-clause-leaves
returns-clause-leaves c =
    let t = c.args.self.now in
    let n = c.args.n.0 in
    let v = c.args.v in
    let room : n < length t.rows.items = search rules in
    let row-is : c.in-Some.row.now ≡ get_or t.rows.items n no_row = search rules in
    let kept : to_z w16 (of_z w16 c.in-Ok.value) ≡ v = search rules in
    let says : true ≡ may_put (rows_store (rows_of t)) n v = search rules in
    rw (c.from.ensures, row-is) (
    ap (λ z. rows_store (set t.rows.items n (with_value (get_or t.rows.items n no_row) z))) kept
    ∙ put_row t.rows.items n v room
    ∙ sym (cond-true (may_put (rows_store (rows_of t)) n v) (set_value (rows_store (rows_of t)) n v) (rows_store (rows_of t)) (sym says)))
