use Rattle.store_tables.proofs.RowLemmas.{rows_read}
use Rattle.store_tables.proofs.query.select_all.Goals as goal

pub returns-clause-read : goal.returns-clause-read
returns-clause-read g c = rows_read c.in_ok-rows.rows.items c.in_ok-rows.ensures.shown
    c.read_all.result (rw c.as_slice.ensures.value at c.read_all.ensures.ok)
    (rw c.as_slice.ensures.value at c.read_all.ensures.value)
    (rw c.as_slice.ensures.value at c.read_all.ensures.mismatch) c.read_all.ensures.fault
