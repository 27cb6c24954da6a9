-- the counts of the owners of the rows so far
use Rattle.std.proofs.Common.{◌≡◌, take}
use Rattle.report_core.specs.Rows.{QueuesRise, RowsRise, entries_of, live_among}
use Rattle.report_core.proofs.load.owners_of.Given as goal

abbrev pub invariant-loop-row : goal.invariant-loop-row
invariant-loop-row l =
    QueuesRise l.queues → RowsRise l.rows
    → l.owners.entries ≡ entries_of l.at (live_among l.settings l.queues (take l.row-index l.rows))
