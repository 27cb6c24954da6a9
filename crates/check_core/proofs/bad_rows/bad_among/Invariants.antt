use Rattle.check_core.proofs.Searching.{RowsLeft}
use Rattle.check_core.proofs.bad_rows.bad_among.Given as goal

abbrev pub invariant-loop-row : goal.invariant-loop-row
invariant-loop-row l = RowsLeft l.kinds l.rows l.row-index
