-- What is read of the tables for a search.
use Rattle.std.specs.Prelude.{◌≡◌, ℕ, Bool, true, false, ◌||◌, List, [], filter, if◌then◌else◌, map}
use Rattle.std.specs.Prelude.{Option, Some, None}
use Rattle.std.specs.Option.{option_map, option_map_or}
use Rattle.settings_core.specs.declared.settings.Settings.{Settings}
use Rattle.desk_model.specs.Desk.{Desk, Request, request_at}
use Rattle.desk_model.specs.Due.{due_on}
use Rattle.desk_model.specs.Facts.{seen_request}
use Rattle.desk_model.specs.Rights.{may_show}
use Rattle.desk_model.specs.declared.rows.Entry.{Entry}
use Rattle.desk_model.specs.declared.rows.QueueRow.{QueueRow}
use Rattle.desk_model.specs.declared.rows.RequestRow.{RequestRow}
use Rattle.desk_model.specs.declared.rows.Watcher.{Watcher}
use Rattle.find_core.specs.Conditions.{meets}
use Rattle.find_core.specs.Find.{last_of, sight_on}
use Rattle.find_core.specs.Loads.{open_in}
use Rattle.find_core.specs.Ordered.{Placed}
use Rattle.find_core.specs.Rows.{Dated, found_by, is_left, may_show_comments_by, place_if, row_among}
use Rattle.find_core.specs.Rows.{told_with}
use Rattle.find_core.specs.declared.search.Found.{Found}
use Rattle.find_core.specs.declared.search.Order.{Order}
use Rattle.find_core.specs.declared.search.Order.TheVariants.{ByLast}
use Rattle.find_core.specs.declared.search.Search.{Search}
use Rattle.report_core.specs.Rows.{RowsRise}
use Rattle.store_tables.specs.Contents.{history_at, watchers}
use Rattle.store_tables.specs.Contents.Watcher.{is_of_person}
use Rattle.store_core.specs.Rows.{AreFiledIn, dated_rows}

-- the watches of the person who is given
abbrev pub theirs_on : Desk → Option (List ℕ) → List Watcher
theirs_on desk person = option_map_or (λ p. filter (is_of_person p) (watchers desk)) person []

-- the rows of the queue that is given, or of all
abbrev pub ArePart : Option (List ℕ) → (RequestRow → Option ℕ) → Desk → List Dated → Type 0
ArePart None due desk rows = rows ≡ dated_rows due desk
ArePart (Some queue) due desk rows = AreFiledIn queue due desk rows

abbrev pub dated_on : Settings → Desk → Request → Dated
dated_on settings desk request = (request.row, due_on settings desk request)

-- the requests that the caller may show and that meet the search but for its words
abbrev pub met_on : Settings → ℕ → List ℕ → Search → Desk → List Request
met_on settings at caller search desk =
    filter (λ r. meets at search (sight_on settings caller desk r).found)
    (filter (λ r. may_show settings caller (seen_request r)) desk.requests)

-- their rows
abbrev pub asked_on : Settings → ℕ → List ℕ → Search → Desk → List Dated
asked_on settings at caller search desk =
    map (dated_on settings desk) (met_on settings at caller search desk)

-- What a search goes over: the caller's own watches, the queues, and rows in the order of their
-- numbers, which have all that the caller may show and that meets the search but for its words.
pub record Covers (settings : Settings) (at : ℕ) (caller : List ℕ) (search : Search) (desk : Desk)
    (own : List Watcher) (queues : List QueueRow) (rows : List Dated) : Type 0 where
  pub watched : own ≡ filter (is_of_person caller) (watchers desk)
  pub queued : queues ≡ desk.queues
  pub rise : RowsRise rows
  pub left : filter (is_left settings at caller search own (theirs_on desk search.requestor) queues) rows
      ≡ asked_on settings at caller search desk

-- the caller's own watches, the queues, and the rows of the open requests that the caller may show
pub record AreOpen (settings : Settings) (at : ℕ) (caller : List ℕ) (desk : Desk)
    (own : List Watcher) (queues : List QueueRow) (rows : List Dated) : Type 0 where
  pub watched : own ≡ filter (is_of_person caller) (watchers desk)
  pub queued : queues ≡ desk.queues
  pub asked : rows ≡ asked_on settings at caller (open_in None false) desk

-- the entries of a row's request that the caller is told, by the caller's own watches
abbrev pub told_by : Settings → List ℕ → List Watcher → Desk → RequestRow → List Entry
told_by settings caller own desk row =
    told_with (may_show_comments_by settings caller row own) (history_at desk row.id)

-- where a row stands and when it is due, if it is left and the words are found in it or in what is
-- told of it
abbrev pub placed_by : Settings → ℕ → List ℕ → Search → List Watcher → List Watcher → List QueueRow
    → Desk → Dated → Option Placed
placed_by settings at caller search own theirs queues desk dated =
    if is_left settings at caller search own theirs queues dated
    then option_map (λ place. (place, dated.1))
    (place_if search dated (told_by settings caller own desk dated.0))
    else None

-- the requestors of the request of that number, if it is there
abbrev pub requestors_at : Desk → ℕ → List (List ℕ)
requestors_at desk id = option_map_or (λ r. r.requestors) (request_at desk id) []

-- when the last entry was made that the caller is told of a row's request
abbrev pub last_by : Settings → List ℕ → List Watcher → Desk → RequestRow → ℕ
last_by settings caller own desk row = last_of row.created (told_by settings caller own desk row)

-- the row of these that stands at a place as it is found, if it is there
abbrev pub found_of : Settings → List ℕ → List Watcher → List QueueRow → List Dated → Desk → Placed
    → Option Found
found_of settings caller own queues rows desk placed =
    option_map (λ dated. found_by settings queues (last_by settings caller own desk dated.0)
    (requestors_at desk dated.0.id) dated) (row_among rows placed.0.id)

abbrev pub is_by_last : Order → Bool
is_by_last ByLast = true
is_by_last other = false

-- the history of a request counts for the search
abbrev pub looks_inside : Search → Bool
looks_inside search = search.in_replies || is_by_last search.order
