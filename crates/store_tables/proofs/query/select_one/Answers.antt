use Rattle.store_tables.proofs.RowLemmas.{rows_read}
use Rattle.store_tables.proofs.query.select_one.Goals as goal

pub returns-clause-read : goal.returns-clause-read
returns-clause-read g c = rows_read c.in_ok-rows.rows.items c.in_ok-rows.ensures.shown
    c.read_one.result (rw c.as_slice.ensures.value at c.read_one.ensures.ok)
    (rw c.as_slice.ensures.value at c.read_one.ensures.value)
    (rw c.as_slice.ensures.value at c.read_one.ensures.mismatch) c.read_one.ensures.fault
