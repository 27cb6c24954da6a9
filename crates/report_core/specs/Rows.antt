-- What the reports tell of rows.
use Rattle.std.specs.Prelude.{◌≡◌, ℕ, ◌+◌, ◌-◌, ◌^◌, min, Bool, true, not, ◌&&◌, if◌then◌else◌}
use Rattle.std.specs.Prelude.{nat_lt, List, [], ◌∷◌, filter, filter_map, find, map, Option, Some}
use Rattle.std.specs.Prelude.{None}
use Rattle.std.specs.Prelude.{option_and_then}
use Rattle.std.specs.List.Sorted.{IsNonDecreasingBy}
use Rattle.std.specs.Str.{bytes_eq}
use Rattle.settings_core.specs.declared.settings.Settings.{Settings}
use Rattle.desk_model.specs.Desk.{has_lower_name}
use Rattle.desk_model.specs.Rising.{is_rising}
use Rattle.desk_model.specs.Lifecycles.{is_inactive, lifecycle_of}
use Rattle.desk_model.specs.Readings.Overdue.{line_if_late}
use Rattle.desk_model.specs.Readings.Workload.{load_of, loads, owners}
use Rattle.desk_model.specs.Told.{Told}
use Rattle.desk_model.specs.Watchers.{may_show_by}
use Rattle.desk_model.specs.declared.answer.LateLine.{LateLine}
use Rattle.desk_model.specs.declared.answer.Line.{Line}
use Rattle.desk_model.specs.declared.answer.Load.{Load}
use Rattle.desk_model.specs.declared.rows.QueueRow.{QueueRow}
use Rattle.desk_model.specs.declared.rows.RequestRow.{RequestRow}
use Rattle.desk_model.specs.declared.rows.Watcher.{Watcher}
use Rattle.report_core.specs.declared.load.Counts.{Counts}

-- the queues stand in the order of their names
abbrev pub QueuesRise : List QueueRow → Type 0
QueuesRise queues = is_rising has_lower_name queues ≡ true

-- the watches stand in the order of their requests
abbrev pub WatchesRise : List Watcher → Type 0
WatchesRise watches = IsNonDecreasingBy (λ w. w.id) watches

-- the numbers of the rows rise, the first from above this one
abbrev pub numbers_rise : ℕ → List (RequestRow × Option ℕ) → Bool
numbers_rise last [] = true
numbers_rise last (dated ∷ rest) = nat_lt last dated.0.id && numbers_rise dated.0.id rest

-- the rows stand in the order of their numbers, each once, and none is 0
abbrev pub RowsRise : List (RequestRow × Option ℕ) → Type 0
RowsRise rows = numbers_rise 0 rows ≡ true

-- the queue of that name, if it is among these
abbrev pub queue_among : List QueueRow → List ℕ → Option QueueRow
queue_among queues name = find (λ q. bytes_eq q.name name) queues

-- the queue, if it has that name
abbrev pub named_only : List ℕ → Option QueueRow → Option QueueRow
named_only name queue =
    option_and_then (λ q. if bytes_eq q.name name then Some q else None) queue

-- the line of a row that has been late for so many minutes
abbrev pub late_by : ℕ → RequestRow → ℕ → LateLine
late_by late row due =
    record { id = row.id; queue = row.queue; owner = row.owner; due = due; late = late }

-- ---- rows with their due moments

-- the line of a request with this due moment
abbrev pub line_with : RequestRow → Option ℕ → Line
line_with row due =
    record { id = row.id; status = row.status; owner = row.owner; due = due; subject = row.subject }

-- the line of a row with its due moment, if the person may show it by these watches
abbrev pub line_shown : Settings → List ℕ → List Watcher → RequestRow × Option ℕ → Option Line
line_shown settings person watches dated =
    if may_show_by settings person dated.0 watches then Some (line_with dated.0 dated.1) else None

-- the same, if it is late
abbrev pub late_line_shown : ℕ → Settings → List ℕ → List Watcher → RequestRow × Option ℕ
    → Option LateLine
late_line_shown at settings person watches dated =
    if may_show_by settings person dated.0 watches
    then option_and_then (line_if_late at dated.0) dated.1
    else None

-- those lines, in the order of the rows
abbrev pub lines_shown : Settings → List ℕ → List Watcher → List (RequestRow × Option ℕ)
    → List Line
lines_shown settings person watches rows = filter_map (line_shown settings person watches) rows

abbrev pub late_lines_shown : ℕ → Settings → List ℕ → List Watcher → List (RequestRow × Option ℕ)
    → List LateLine
late_lines_shown at settings person watches rows =
    filter_map (late_line_shown at settings person watches) rows

-- ---- what each owner has

-- those of the rows that the person may show by these watches
abbrev pub shown_by : Settings → List ℕ → List Watcher → List (RequestRow × Option ℕ)
    → List (RequestRow × Option ℕ)
shown_by settings person watches rows =
    filter (λ dated. may_show_by settings person dated.0 watches) rows

-- the status of a request of this queue isn't inactive
abbrev pub is_live : Settings → Option QueueRow → RequestRow → Bool
is_live settings queue row = not (is_inactive (lifecycle_of settings queue) row.status)

-- a row with its due moment as the reports tell of it, where these are the queues
abbrev pub told_among : Settings → List QueueRow → RequestRow × Option ℕ → Told
told_among settings queues dated =
    record {
      row = dated.0;
      due = dated.1;
      is_live = is_live settings (queue_among queues dated.0.queue) dated.0;
    }

-- those of the rows whose status isn't inactive
abbrev pub live_among : Settings → List QueueRow → List (RequestRow × Option ℕ) → List Told
live_among settings queues rows =
    filter (λ r. r.is_live) (map (told_among settings queues) rows)

-- what each owner has of them
abbrev pub loads_by : ℕ → Settings → List QueueRow → List (RequestRow × Option ℕ) → List Load
loads_by at settings queues rows = loads at (live_among settings queues rows)

-- how many of the requests are the owner's, and how many of those are late
abbrev pub counts_of : ℕ → List Told → Option (List ℕ) → Counts
counts_of at requests owner =
    record {
      live = (load_of at requests owner).live;
      overdue = (load_of at requests owner).overdue;
    }

abbrev pub with_counts : ℕ → List Told → Option (List ℕ) → Option (List ℕ) × Counts
with_counts at requests owner = (owner, counts_of at requests owner)

-- each owner with the counts
abbrev pub entries_of : ℕ → List Told → List (Option (List ℕ) × Counts)
entries_of at requests = map (with_counts at requests) (owners requests)

abbrev pub load_in : Option (List ℕ) × Counts → Load
load_in entry = record { owner = entry.0; live = entry.1.live; overdue = entry.1.overdue }

-- one request more, late or not; a count stays at the greatest number that it can hold
abbrev pub counted : Bool → Counts → Counts
counted is_late counts =
    record {
      live = min (counts.live + 1) (2 ^ 32 - 1);
      overdue = if is_late then min (counts.overdue + 1) (2 ^ 32 - 1) else counts.overdue;
    }

abbrev pub no_counts : Counts
no_counts = record { live = 0; overdue = 0 }
