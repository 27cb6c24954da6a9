use Rattle.check_core.proofs.ToldLemmas.{bad_row_told, fault_told, name_told, nothing_told}
use Rattle.check_core.proofs.told.told_of_present.Goals as goal

pub returns-in-Some-Name : goal.returns-in-Some-Name
returns-in-Some-Name g c =
    name_told g.S.Store c.args.settings.now c.fault_of_tables.new.store.tables.conn
    c.fault_of_tables.ensures.kept c.name_told.result
    (rw c.in-Some-Name.field-0-is at c.in-Some-Name.ensures.is)
    (rw c.as_str.ensures.value at c.name_told.ensures)

pub returns-in-Some-Rows-Mismatch : goal.returns-in-Some-Rows-Mismatch
returns-in-Some-Rows-Mismatch g c =
    bad_row_told g.S.Store c.args.settings.now c.fault_of_tables.new.store.tables.conn
    c.fault_of_tables.ensures.kept c.row_told.result
    (rw (c.in-Some-Rows-Mismatch.field-0-is, c.in-Some-Rows-Mismatch.field-0-0-is)
    at c.in-Some-Rows-Mismatch.ensures.is)

pub returns-in-Some-Rows : goal.returns-in-Some-Rows
returns-in-Some-Rows g c =
    fault_told g.S.Store c.args.settings.now c.fault_of_tables.new.store.tables.conn
    c.fault_of_tables.ensures.kept c.unread_told.result c.in-Some-Rows.fault
    (rw c.in-Some-Rows.field-0-is at c.in-Some-Rows.ensures.is) c.unread_told.ensures

pub returns-in-None : goal.returns-in-None
returns-in-None g c =
    nothing_told g.S.Store c.args.settings.now c.fault_of_tables.new.store.tables.conn
    c.fault_of_tables.ensures.kept (rw c.in-None.is at c.fault_of_tables.ensures.is)
