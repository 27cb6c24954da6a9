-- those of the numbers so far
use Rattle.std.proofs.Common.{◌≡◌, take}
use Rattle.sqlite.specs.State.{HasCleanDisk}
use Rattle.desk_model.specs.Desk.{Desk}
use Rattle.desk_model.specs.IsDesk.{IsDesk}
use Rattle.desk_model.specs.View.{view}
use Rattle.store_tables.specs.Calls.{LeavesTables}
use Rattle.store_tables.specs.Stands.{Represents}
use Rattle.store_core.specs.Seen.{state_of}
use Rattle.service_core.specs.LinkedRows.{rows_at}
use Rattle.service_core.proofs.linked_rows.rows_at.Given as goal

abbrev pub invariant-loop-number : goal.invariant-loop-number
invariant-loop-number g l =
    let old = state_of g.S.Store l.fn.store in
    let now = state_of g.S.Store l.store in record {
      told :
          (desk : Desk) → IsDesk desk → Represents desk old → HasCleanDisk now
          → l.rows.items ≡ rows_at (view l.settings l.caller desk) (take l.number-index l.numbers);
      kept : LeavesTables old now;
    }
