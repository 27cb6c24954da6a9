use Rattle.check_core.proofs.BadRows.{found_of}
use Rattle.check_core.proofs.bad_rows.bad_of.Goals as goal

pub returns-in-Ok-clause-first : goal.returns-in-Ok-clause-first
returns-in-Ok-clause-first g c version has there clean = found_of version c.args.table has
    c.in_ok-rows.rows
    c.in_ok-rows.rows.items c.in_ok-rows.ensures.leaves there clean
    (c.in_ok-rows.ensures.shown clean) c.in-Ok.found
    (rw (c.kinds_of.ensures, c.as_slice.ensures.value) at c.in-Ok.ensures)
