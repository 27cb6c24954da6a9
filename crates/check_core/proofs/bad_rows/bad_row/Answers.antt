use Rattle.std.proofs.Common.{rules}
use Rattle.check_core.specs.declared.columns.Table.TheVariants as table
use Rattle.check_core.proofs.Searching.{first_table, next_table, no_table}
use Rattle.check_core.proofs.bad_rows.bad_row.Goals as goal

pub loop-table-preserved : goal.loop-table-preserved
loop-table-preserved g c =
    let tested = c.tables_of-tested.ensures in
    next_table c.args.version c.loop-table.table-index c.loop-table.invariant table.Request
    (rw tested at c.loop-table-test.true) c.bad_of.ensures.kept
    (rw (c.in-None.is, tested) at c.in_ok-found.ensures.first)

pub returns-in-Some-clause-first : goal.returns-in-Some-clause-first
returns-in-Some-clause-first g c =
    let tested = c.tables_of-tested.ensures in
    rw tested (first_table c.args.version c.loop-table.table-index c.loop-table.invariant
    table.Request (rw tested at c.loop-table-test.true) c.bad_of.ensures.kept
    (c.in-Some.row, c.in-Some.at) (rw (c.in-Some.is, tested) at c.in_ok-found.ensures.first))

pub returns-clause-first : goal.returns-clause-first
returns-clause-first g c = no_table c.args.version c.loop-table.table-index
    c.loop-table.invariant (rw c.tables_of-tested.ensures at c.loop-table-test.false)
