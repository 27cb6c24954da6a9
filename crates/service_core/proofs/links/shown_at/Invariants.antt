-- those of the links so far of which the caller may show the request at that end
use Rattle.std.proofs.Common.{◌≡◌, filter, take}
use Rattle.sqlite.specs.State.{HasCleanDisk}
use Rattle.desk_model.specs.Desk.{Desk}
use Rattle.desk_model.specs.IsDesk.{IsDesk}
use Rattle.store_tables.specs.Calls.{LeavesTables}
use Rattle.store_core.specs.Seen.{state_of}
use Rattle.store_tables.specs.Stands.{Represents}
use Rattle.service_core.specs.Shown.{AreAnswers, is_shown_at}
use Rattle.service_core.proofs.links.shown_at.Given as goal

abbrev pub invariant-loop-link : goal.invariant-loop-link
invariant-loop-link g l =
    let old = state_of g.S.Store l.fn.store in
    let now = state_of g.S.Store l.store in record {
      told :
          (desk : Desk) → IsDesk desk → Represents desk old → HasCleanDisk now
          → AreAnswers l.settings l.caller desk l.fn.asked
          → (l.found.items
          ≡ filter (is_shown_at l.settings l.caller desk l.end) (take l.link-index l.links))
          × AreAnswers l.settings l.caller desk l.asked;
      kept : LeavesTables old now;
    }
