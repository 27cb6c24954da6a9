-- What is told of rows that were read.
use Rattle.std.specs.Prelude.{ℕ, Bool, true, not, ◌&&◌, ◌||◌, ◌==◌, List, filter, find, Option, Some}
use Rattle.std.specs.Prelude.{None, if◌then◌else◌, option_and_then}
use Rattle.std.specs.Option.{option_map_or}
use Rattle.rights_core.specs.People.{holds}
use Rattle.rights_core.specs.Right.{show_ticket_comments}
use Rattle.settings_core.specs.Settings.{people_of}
use Rattle.settings_core.specs.declared.settings.Settings.{Settings}
use Rattle.lifecycle_core.specs.declared.lifecycle.Class.{Class}
use Rattle.desk_model.specs.Readings.History.{is_comment}
use Rattle.desk_model.specs.Watchers.{is_watching, may_show_by, roles_among}
use Rattle.desk_model.specs.declared.rows.Entry.{Entry}
use Rattle.desk_model.specs.declared.rows.QueueRow.{QueueRow}
use Rattle.desk_model.specs.declared.rows.RequestRow.{RequestRow}
use Rattle.desk_model.specs.declared.rows.Watcher.{Watcher}
use Rattle.desk_model.specs.declared.rows.WatchRole.TheVariants.{Requestor}
use Rattle.report_core.specs.Rows.{queue_among}
use Rattle.find_core.specs.Conditions.{has_owner, has_status, has_turn, is_due, is_filed, is_in}
use Rattle.find_core.specs.Conditions.{texts_sought}
use Rattle.find_core.specs.Find.{class_in, found_with, last_of, replies_of}
use Rattle.find_core.specs.Places.{place_in}
use Rattle.find_core.specs.Words.{has_words}
use Rattle.find_core.specs.declared.search.Found.{Found}
use Rattle.find_core.specs.declared.search.Place.{Place}
use Rattle.find_core.specs.declared.search.Search.{Search}

-- a row and when it is due
abbrev pub Dated : Type 0
Dated = RequestRow × Option ℕ

-- the person who is asked for is a requestor of the request, by that person's watches
abbrev pub is_requested : Option (List ℕ) → List Watcher → ℕ → Bool
is_requested asked theirs id =
    option_map_or (λ person. is_watching person id Requestor theirs) asked true

-- all that is asked of a row but the words and the requestor, where its status has this class
abbrev pub row_meets : ℕ → Search → Option Class → Dated → Bool
row_meets at search class dated =
    is_in search.queue dated.0.queue
    && (has_status search.status class dated.0.status
    && (has_owner search.owner dated.0.owner
    && (has_turn search.turn class dated.0.turn
    && (is_due at search.late dated.1
    && is_filed search.filed_from search.filed_to dated.0.created))))

-- the person may show the row, and it meets the search but for the words
abbrev pub is_left : Settings → ℕ → List ℕ → Search → List Watcher → List Watcher → List QueueRow
    → Dated → Bool
is_left settings at person search own theirs queues dated =
    row_meets at search (class_in settings (queue_among queues dated.0.queue) dated.0.status) dated
    && (is_requested search.requestor theirs dated.0.id && may_show_by settings person dated.0 own)

-- the right to see the comments of a request, held with the person's roles on it by these watches
abbrev pub may_show_comments_by : Settings → List ℕ → RequestRow → List Watcher → Bool
may_show_comments_by settings person row watches =
    holds (people_of settings) person show_ticket_comments row.queue
    (roles_among person row watches)

-- the entries that are told, with the comments or without them
abbrev pub told_with : Bool → List Entry → List Entry
told_with comments entries = filter (λ e. not (is_comment e.kind) || comments) entries

-- where a row stands, if the words are found in it or in what is told of its history
abbrev pub place_if : Search → Dated → List Entry → Option Place
place_if search dated entries =
    if has_words search.words (texts_sought search dated.0.subject (replies_of entries))
    then Some (place_in search.order dated.0.id dated.1 (last_of dated.0.created entries))
    else None

-- the row of that number, if it is among these
abbrev pub row_among : List Dated → ℕ → Option Dated
row_among rows id = find (λ d. d.0.id == id) rows

-- the row, if it has that number
abbrev pub numbered_only : ℕ → Option Dated → Option Dated
numbered_only id dated = option_and_then (λ d. if d.0.id == id then Some d else None) dated

-- a row with its due moment as it is found, where these are the queues: with the moment of the last
-- entry that is told, and the requestors
abbrev pub found_by : Settings → List QueueRow → ℕ → List (List ℕ) → Dated → Found
found_by settings queues last requestors dated =
    found_with (class_in settings (queue_among queues dated.0.queue) dated.0.status) dated.1 last
    requestors dated.0
