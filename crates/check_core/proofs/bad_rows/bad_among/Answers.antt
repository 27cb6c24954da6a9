use Rattle.std.proofs.Common.{rules}
use Rattle.check_core.proofs.Searching.{first_row, next_row, no_row}
use Rattle.check_core.proofs.bad_rows.bad_among.Goals as goal

pub loop-row-preserved : goal.loop-row-preserved
loop-row-preserved c = next_row c.args.kinds.now c.args.rows.now c.loop-row.row-index
    c.loop-row.invariant c.row-item.result c.loop-row-test.true c.row-item.is
    (rw c.in-None.is at c.misfit.ensures)

pub returns-in-Some : goal.returns-in-Some
returns-in-Some c = rw c.in_ok-copy-in-Some.ensures (first_row c.args.kinds.now c.args.rows.now
    c.loop-row.row-index c.loop-row.invariant c.row-item.result c.loop-row-test.true c.row-item.is
    c.in-Some.at (rw c.in-Some.is at c.misfit.ensures))

pub returns : goal.returns
returns c = no_row c.args.kinds.now c.args.rows.now c.loop-row.row-index c.loop-row.invariant
    (search rules)
