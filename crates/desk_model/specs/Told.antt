-- The requests that a caller may show, as the reports tell of them.
use Rattle.std.specs.Prelude.{ℕ, Bool, false, not, nat_lt, List, filter, map}
use Rattle.std.specs.Prelude.{Option, option_and_then}
use Rattle.std.specs.Option.{option_map_or}
use Rattle.hours_core.specs.declared.stay.Stay.{Stay}
use Rattle.settings_core.specs.declared.settings.Settings.{Settings}
use Rattle.desk_model.specs.Desk.{Desk, Request, queue_at}
use Rattle.desk_model.specs.Due.{due_of}
use Rattle.desk_model.specs.Facts.{seen_request}
use Rattle.desk_model.specs.Lifecycles.{is_inactive, lifecycle_of}
use Rattle.desk_model.specs.Rights.{may_show}
use Rattle.desk_model.specs.Stays.{stays_of}
use Rattle.desk_model.specs.declared.rows.QueueRow.{QueueRow}
use Rattle.desk_model.specs.declared.rows.RequestRow.{RequestRow}

-- a request's row, when it is due, and whether its status isn't inactive
pub record Told : Type 0 where
  pub row : RequestRow
  pub due : Option ℕ
  pub is_live : Bool

-- a request of this queue with these stays, if the queue is there
abbrev pub told_in : Settings → Option QueueRow → List Stay → RequestRow → Told
told_in settings queue stays row =
    record {
      row = row;
      due = option_and_then (λ q. due_of settings q stays row) queue;
      is_live = not (is_inactive (lifecycle_of settings queue) row.status);
    }

abbrev pub told_on : Settings → Desk → Request → Told
told_on settings desk request =
    told_in settings (queue_at desk request.row.queue) (stays_of request.entries) request.row

-- the requests of the desk that the caller may show, in the order of their numbers
abbrev pub told : Settings → List ℕ → Desk → List Told
told settings caller desk =
    map (told_on settings desk)
    (filter (λ r. may_show settings caller (seen_request r)) desk.requests)

-- the request was due before the moment
abbrev pub is_late : ℕ → Told → Bool
is_late at request = option_map_or (λ due. nat_lt due at) request.due false
