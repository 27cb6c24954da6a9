-- the rows at the places so far, as they are found
use Rattle.std.proofs.Common.{◌≡◌, Some, map, take}
use Rattle.sqlite.specs.State.{HasCleanDisk}
use Rattle.desk_model.specs.Desk.{Desk}
use Rattle.desk_model.specs.IsDesk.{IsDesk}
use Rattle.report_core.specs.Rows.{QueuesRise, RowsRise, WatchesRise}
use Rattle.store_tables.specs.Calls.{LeavesTables}
use Rattle.store_tables.specs.Stands.{Represents}
use Rattle.store_core.specs.Seen.{state_of}
use Rattle.desk_finds.specs.Found.{found_of}
use Rattle.desk_finds.proofs.finding.found.Given as goal

abbrev pub invariant-loop-placed : goal.invariant-loop-placed
invariant-loop-placed g l =
    let old = state_of g.S.Store l.fn.store in
    let now = state_of g.S.Store l.store in record {
      told :
          WatchesRise l.own → QueuesRise l.queues → RowsRise l.rows
          → (desk : Desk) → IsDesk desk → Represents desk old → HasCleanDisk now
          → map Some l.told.items ≡ map (found_of l.call.settings.now l.call.caller.now l.own l.queues
          l.rows desk) (take l.placed-index l.page);
      kept : LeavesTables old now;
    }
