-- what the queues have of the rows so far
use Rattle.std.proofs.Common.{◌≡◌, map, take}
use Rattle.report_core.specs.Rows.{QueuesRise, RowsRise}
use Rattle.find_core.specs.Loads.{load_of}
use Rattle.find_core.proofs.loads.queue_loads.Given as goal

abbrev pub invariant-loop-row : goal.invariant-loop-row
invariant-loop-row l =
    QueuesRise l.fn.queues.items → RowsRise l.rows
    → l.loads.items ≡ map (load_of l.at (take l.row-index l.rows)) l.fn.queues.items
