-- The first name in the rows of a desk's tables that settings don't know.
use Rattle.std.specs.Prelude.{◌≡◌, ℕ, Bool, List, [], ◌∷◌, flat_map, Option, Some, None, is_none, is_some}
use Rattle.std.specs.Prelude.{if◌then◌else◌}
use Rattle.std.specs.Option.{option_map, option_or}
use Rattle.settings_core.specs.Settings.{knows, level_named, lifecycle_named}
use Rattle.settings_core.specs.declared.settings.Settings.{Settings}
use Rattle.desk_model.specs.Desk.{Desk}
use Rattle.desk_model.specs.Known as known
use Rattle.desk_model.specs.declared.rows.Entry.{Entry}
use Rattle.desk_model.specs.declared.rows.QueueRow.{QueueRow}
use Rattle.desk_model.specs.declared.rows.RequestRow.{RequestRow}
use Rattle.desk_model.specs.declared.rows.WatchRole.{WatchRole}
use Rattle.desk_model.specs.declared.rows.WatchRole.TheVariants as role
use Rattle.desk_model.specs.declared.rows.Watcher.{Watcher}
use Rattle.store_tables.specs.Contents.{entries, history_at, request_rows, watchers}
use Rattle.service_core.specs.Attaching.{of_queues}
use Rattle.check_core.specs.declared.rows.Row.{Row as RowInCode}
use Rattle.check_core.specs.declared.rows.Row.TheVariants as row
use Rattle.check_core.specs.declared.rows.Unknown.{Unknown as UnknownInCode}
use Rattle.check_core.specs.declared.rows.What.{What}
use Rattle.check_core.specs.declared.rows.What.TheVariants as what

pub data Row : Type 0 where
  in_queue : List ℕ → Row
  in_request : ℕ → Row
  in_entry : ℕ → ℕ → Row

-- where a name stands, what it is, and the name
pub record Unknown : Type 0 where
  pub row : Row
  pub what : What
  pub name : List ℕ

abbrev pub unknown : Row → What → List ℕ → Unknown
unknown row what name = record { row = row; what = what; name = name }

abbrev pub unknown_level : Settings → Option (List ℕ) → Option (What × List ℕ)
unknown_level s None = None
unknown_level s (Some level) =
    if is_some (level_named s level) then None else Some (what.Level, level)

abbrev pub unknown_owner : Settings → Option (List ℕ) → Option (What × List ℕ)
unknown_owner s None = None
unknown_owner s (Some owner) = if knows s owner then None else Some (what.Owner, owner)

-- the lifecycle of a queue, or else its level
abbrev pub unknown_of_queue : Settings → QueueRow → Option (What × List ℕ)
unknown_of_queue s queue =
    if is_some (lifecycle_named s queue.lifecycle) then unknown_level s queue.level
    else Some (what.Lifecycle, queue.lifecycle)

abbrev pub unknown_queue : Settings → List QueueRow → Option Unknown
unknown_queue s [] = None
unknown_queue s (q ∷ qs) =
    option_or
    (option_map (λ found. unknown (in_queue q.name) found.0 found.1) (unknown_of_queue s q))
    (unknown_queue s qs)

abbrev pub knows_status : Settings → List QueueRow → RequestRow → Bool
knows_status s queues request = known.knows_status s (of_queues queues) request

-- the status of a request, or else its level, or else its owner
abbrev pub unknown_of_request : Settings → List QueueRow → RequestRow → Option (What × List ℕ)
unknown_of_request s queues request =
    if knows_status s queues request
    then option_or (unknown_level s request.level) (unknown_owner s request.owner)
    else Some (what.Status, request.status)

abbrev pub unknown_request : Settings → List QueueRow → List RequestRow → Option Unknown
unknown_request s queues [] = None
unknown_request s queues (r ∷ rs) =
    option_or
    (option_map (λ found. unknown (in_request r.id) found.0 found.1) (unknown_of_request s queues r))
    (unknown_request s queues rs)

abbrev pub what_of : WatchRole → What
what_of role.Requestor = what.Requestor
what_of role.Cc = what.Cc
what_of role.AdminCc = what.AdminCc

abbrev pub unknown_watcher : Settings → List Watcher → Option Unknown
unknown_watcher s [] = None
unknown_watcher s (w ∷ ws) =
    if knows s w.person then unknown_watcher s ws
    else Some (unknown (in_request w.id) (what_of w.role) w.person)

abbrev pub unknown_entry : Settings → List Entry → Option Unknown
unknown_entry s [] = None
unknown_entry s (e ∷ es) =
    if knows s e.actor then unknown_entry s es
    else Some (unknown (in_entry e.id e.number) what.Actor e.actor)

-- of the queues, or else of the requests
abbrev pub unknown_row : Settings → List QueueRow → List RequestRow → Option Unknown
unknown_row s queues requests = option_or (unknown_queue s queues) (unknown_request s queues requests)

-- the first name of a desk that the settings don't know: of a queue, or else of a request, or else
-- of a watcher, or else of who made an entry
unfoldable pub first_unknown : Settings → Desk → Option Unknown
first_unknown s desk =
    option_or (unknown_row s desk.queues (request_rows desk))
    (option_or (unknown_watcher s (watchers desk)) (unknown_entry s (entries desk)))

-- settings know each name of a desk exactly where none is the first that they don't
abbrev pub FirstUnknownLaw : Type 0
FirstUnknownLaw =
    (s : Settings) (desk : Desk) → known.is_known s desk ≡ is_none (first_unknown s desk)

-- ---- of persons, as they are read

-- the histories of these requests, one after another
abbrev pub histories : List RequestRow → Desk → List Entry
histories requests desk = flat_map (λ r. history_at desk r.id) requests

-- of the watchers, or else of the histories of these requests
abbrev pub unknown_person : Settings → List RequestRow → Desk → Option Unknown
unknown_person s requests desk =
    option_or (unknown_watcher s (watchers desk)) (unknown_entry s (histories requests desk))

-- ---- as the code holds them

abbrev pub seen_row : RowInCode → Row
seen_row (row.Queue name) = in_queue name.now
seen_row (row.Request id) = in_request id
seen_row (row.Entry id number) = in_entry id number

abbrev pub seen : UnknownInCode → Unknown
seen found = unknown (seen_row found.row) found.what found.name.now
