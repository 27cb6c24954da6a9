-- A change with the stays of the request whose row it puts, and the moment at which that is due.
use Rattle.std.specs.Prelude.{ℕ, List, [], Option, Some, None, option_and_then}
use Rattle.hours_core.specs.declared.stay.Stay.{Stay}
use Rattle.settings_core.specs.declared.settings.Settings.{Settings}
use Rattle.desk_model.specs.Due.{due_of}
use Rattle.desk_model.specs.Stays.{stays_after}
use Rattle.desk_model.specs.declared.change.Change.{Change}
use Rattle.desk_model.specs.declared.facts.Facts.{Facts}
use Rattle.desk_model.specs.declared.rows.Entry.{Entry}
use Rattle.desk_model.specs.declared.rows.QueueRow.{QueueRow}
use Rattle.desk_model.specs.declared.rows.RequestRow.{RequestRow}

-- the row that a change puts: that of the request that it files, or the one that it sets
abbrev pub either_row : Option RequestRow → Option RequestRow → Option RequestRow
either_row None row = row
either_row (Some filed) row = Some filed

-- the stays of the request whose row is put, after these entries; none where no row is
abbrev pub stays_put : List Stay → List Entry → Option RequestRow → List Stay
stays_put stays entries None = []
stays_put stays entries (Some row) = stays_after stays entries

-- when that row is due in this queue
abbrev pub due_in_queue : Settings → Option QueueRow → List Stay → Option RequestRow → Option ℕ
due_in_queue settings queue stays row =
    option_and_then (λ q. option_and_then (due_of settings q stays) row) queue

abbrev pub dated : Settings → Facts → Change → Change
dated settings facts change =
    let row = either_row change.filed change.row in
    let stays = stays_put facts.stays change.entries row in
    record change { due = due_in_queue settings facts.queue stays row; stays = stays }
