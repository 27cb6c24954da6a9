use Rattle.std.proofs.Common.{None, Some}
use Rattle.check_core.specs.declared.columns.Version.TheVariants.{First}
use Rattle.check_core.proofs.NamesRead.{if_any}
use Rattle.check_core.proofs.ToldLemmas.{row_told, rows_unread}
use Rattle.check_core.proofs.told.told_of_first.Goals as goal

pub returns-in-Ok-Some : goal.returns-in-Ok-Some
returns-in-Ok-Some g c =
    let bad = c.in-Ok-Some.bad in
    row_told g.S.Store First c.bad_row.new.tables.conn c.bad_told.result
    (Some (bad.table, (bad.row, bad.at))) (rw c.release.ensures.same at c.bad_row.ensures.kept)
    (rw (c.in-Ok-Some.field-0-is, c.release.ensures.same) at c.in-Ok-Some.ensures.first)
    c.bad_told.ensures

pub returns-in-Ok-None : goal.returns-in-Ok-None
returns-in-Ok-None g c =
    row_told g.S.Store First c.bad_row.new.tables.conn c.first_name_told.result None
    (rw c.release.ensures.same at c.bad_row.ensures.kept)
    (rw (c.in-Ok-None.field-0-is, c.release.ensures.same) at c.in-Ok-None.ensures.first)
    (if_any c.first_name_told.result (λ told. tt))

pub returns-in-Err : goal.returns-in-Err
returns-in-Err g c =
    rows_unread g.S.Store First c.bad_row.new.tables.conn c.unread_told.result c.in-Err.fault
    (rw c.release.ensures.same at c.bad_row.ensures.kept) c.unread_told.ensures
