-- where those of the rows so far stand that are left, and in which the words are found
use Rattle.std.proofs.Common.{◌≡◌, take}
use Rattle.std.specs.Prelude.{filter_map}
use Rattle.sqlite.specs.State.{HasCleanDisk}
use Rattle.desk_model.specs.Desk.{Desk}
use Rattle.desk_model.specs.IsDesk.{IsDesk}
use Rattle.report_core.specs.Rows.{QueuesRise, WatchesRise}
use Rattle.store_tables.specs.Calls.{LeavesTables}
use Rattle.store_tables.specs.Stands.{Represents}
use Rattle.store_core.specs.Seen.{state_of}
use Rattle.desk_finds.specs.Found.{placed_by}
use Rattle.desk_finds.proofs.finding.placed.Given as goal

abbrev pub invariant-loop-dated : goal.invariant-loop-dated
invariant-loop-dated g l =
    let old = state_of g.S.Store l.fn.store in
    let now = state_of g.S.Store l.store in record {
      told :
          WatchesRise l.own → WatchesRise l.theirs → QueuesRise l.queues
          → (desk : Desk) → IsDesk desk → Represents desk old → HasCleanDisk now
          → l.placed.items ≡ filter_map (placed_by l.call.settings.now l.call.at l.call.caller.now
          l.search l.own l.theirs l.queues desk) (take l.dated-index l.rows);
      kept : LeavesTables old now;
    }
