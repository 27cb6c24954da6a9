-- What is found on a desk.
use Rattle.std.specs.Prelude.{ℕ, Bool, true, false, not, List, [], ◌∷◌, filter, fold, length, map}
use Rattle.std.specs.Prelude.{Option, Some, None, option_and_then, Result, Ok, Err}
use Rattle.hours_core.specs.Moment.{is_moment}
use Rattle.lifecycle_core.specs.Lifecycle.{class_of}
use Rattle.lifecycle_core.specs.declared.lifecycle.Class.{Class}
use Rattle.settings_core.specs.Settings.{knows}
use Rattle.settings_core.specs.declared.settings.Settings.{Settings}
use Rattle.desk_model.specs.Condition.{first_holding}
use Rattle.desk_model.specs.Desk.{Desk, Request, queue_at}
use Rattle.desk_model.specs.Due.{due_on}
use Rattle.desk_model.specs.Facts.{seen_request}
use Rattle.desk_model.specs.Lifecycles.{lifecycle_of}
use Rattle.desk_model.specs.Readings.History.{entries_told}
use Rattle.desk_model.specs.Rights.{may_show}
use Rattle.desk_model.specs.declared.refusal.Refusal.{Refusal}
use Rattle.desk_model.specs.declared.refusal.Refusal.TheVariants.{UnknownCaller, BadMoment}
use Rattle.desk_model.specs.declared.rows.Entry.{Entry}
use Rattle.desk_model.specs.declared.rows.EntryKind.{EntryKind}
use Rattle.desk_model.specs.declared.rows.EntryKind.TheVariants.{Reply, Comment}
use Rattle.desk_model.specs.declared.rows.QueueRow.{QueueRow}
use Rattle.desk_model.specs.declared.rows.RequestRow.{RequestRow}
use Rattle.find_core.specs.Conditions.{is_asked}
use Rattle.find_core.specs.Places.{page, place_of}
use Rattle.find_core.specs.declared.search.Findings.{Findings}
use Rattle.find_core.specs.declared.search.Found.{Found}
use Rattle.find_core.specs.declared.search.Place.{Place}
use Rattle.find_core.specs.declared.search.Search.{Search}

-- a request as a search sees it: as it is found, and the texts of its replies and comments
pub record Sight : Type 0 where
  pub found : Found
  pub replies : List (List ℕ)

-- somebody wrote the text
abbrev pub is_written : EntryKind → Bool
is_written Reply = true
is_written Comment = true
is_written other = false

abbrev pub replies_of : List Entry → List (List ℕ)
replies_of entries = map (λ e. e.body) (filter (λ e. is_written e.kind) entries)

-- the moment of the last of the entries, or this one where there is none
abbrev pub last_of : ℕ → List Entry → ℕ
last_of filed entries = fold (λ last e. e.moment) filed entries

-- the class of a status in the lifecycle of a queue
abbrev pub class_in : Settings → Option QueueRow → List ℕ → Option Class
class_in settings queue status =
    option_and_then (λ l. class_of l status) (lifecycle_of settings queue)

-- a row whose status has this class, with this due moment, this last entry's and these requestors
abbrev pub found_with : Option Class → Option ℕ → ℕ → List (List ℕ) → RequestRow → Found
found_with class due last requestors row =
    record {
      id = row.id;
      queue = row.queue;
      status = row.status;
      class = class;
      owner = row.owner;
      turn = row.turn;
      due = due;
      subject = row.subject;
      requestors = requestors;
      filed = row.created;
      last = last;
    }

-- a row of a request in this queue, with this due moment, of which these entries are told
abbrev pub sight_in : Settings → Option QueueRow → Option ℕ → List Entry → List (List ℕ)
    → RequestRow → Sight
sight_in settings queue due entries requestors row =
    record {
      found = found_with (class_in settings queue row.status) due (last_of row.created entries)
          requestors row;
      replies = replies_of entries;
    }

-- a request of the desk as a search sees it for a caller: no entry counts that isn't told
abbrev pub sight_on : Settings → List ℕ → Desk → Request → Sight
sight_on settings caller desk request =
    sight_in settings (queue_at desk request.row.queue) (due_on settings desk request)
    (entries_told settings caller request) request.requestors request.row

-- the requests of the desk that the caller may show, in the order of their numbers
abbrev pub sights : Settings → List ℕ → Desk → List Sight
sights settings caller desk =
    map (sight_on settings caller desk)
    (filter (λ r. may_show settings caller (seen_request r)) desk.requests)

-- those that are asked for
abbrev pub found_among : ℕ → Search → List Sight → List Found
found_among at search requests =
    map (λ s. s.found) (filter (λ s. is_asked at search s.found s.replies) requests)

-- a page of them, and how many there are on all pages
abbrev pub findings_among : ℕ → Search → ℕ → Option Place → List Sight → Findings
findings_among at search limit after requests =
    let all = found_among at search requests in
    record {
      rows = page search.descending limit after (place_of search.order) all;
      count = length all;
    }

abbrev pub findings : Settings → ℕ → List ℕ → Search → ℕ → Option Place → Desk → Findings
findings settings at caller search limit after desk =
    findings_among at search limit after (sights settings caller desk)

-- what every desk refuses, as it refuses it to a command
abbrev pub refusal_of : Settings → ℕ → List ℕ → Option Refusal
refusal_of settings at caller =
    first_holding
    ((UnknownCaller, not (knows settings caller)) ∷ (BadMoment, not (is_moment at)) ∷ [])

abbrev pub unless_refused : {X : Type 0} → Option Refusal → X → Result X Refusal
unless_refused None answer = Ok answer
unless_refused (Some refusal) answer = Err refusal

-- what comes of a search
abbrev pub outcome_of : Settings → ℕ → List ℕ → Search → ℕ → Option Place → Desk
    → Result Findings Refusal
outcome_of settings at caller search limit after desk =
    unless_refused (refusal_of settings at caller)
    (findings settings at caller search limit after desk)
