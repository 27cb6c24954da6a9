use Rattle.store_tables.specs.Seen.{seen}
use Rattle.check_core.proofs.Searching.{TablesLeft}
use Rattle.check_core.proofs.bad_rows.bad_row.Given as goal

abbrev pub invariant-loop-table : goal.invariant-loop-table
invariant-loop-table g l =
    TablesLeft l.fn.version l.table-index (seen g.S.Store l.fn.tables) (seen g.S.Store l.tables)
