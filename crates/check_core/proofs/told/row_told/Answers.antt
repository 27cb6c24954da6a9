use Rattle.std.proofs.Common.{Some}
use Rattle.store_tables.specs.declared.fault.StoreFault.TheVariants.{Mismatch}
use Rattle.check_core.specs.declared.columns.Version.TheVariants.{Present}
use Rattle.check_core.proofs.ToldLemmas.{row_told, rows_unread}
use Rattle.check_core.proofs.told.row_told.Goals as goal

pub returns-in-Ok-Some : goal.returns-in-Ok-Some
returns-in-Ok-Some g c =
    let bad = c.in-Ok-Some.bad in
    row_told g.S.Store Present c.bad_row.new.tables.conn c.bad_told.result
    (Some (bad.table, (bad.row, bad.at))) (rw c.release.ensures.same at c.bad_row.ensures.kept)
    (rw (c.in-Ok-Some.field-0-is, c.release.ensures.same) at c.in-Ok-Some.ensures.first)
    c.bad_told.ensures

pub returns-in-Ok-None : goal.returns-in-Ok-None
returns-in-Ok-None g c =
    rows_unread g.S.Store Present c.bad_row.new.tables.conn c.unread_told.result Mismatch
    (rw c.release.ensures.same at c.bad_row.ensures.kept) c.unread_told.ensures

pub returns-in-Err : goal.returns-in-Err
returns-in-Err g c =
    rows_unread g.S.Store Present c.bad_row.new.tables.conn c.unread_told-in-Err.result c.in-Err.fault
    (rw c.release.ensures.same at c.bad_row.ensures.kept) c.unread_told-in-Err.ensures
