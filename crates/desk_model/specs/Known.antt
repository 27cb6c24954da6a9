-- A desk whose names the settings know.
use Rattle.std.specs.Prelude.{ℕ, Bool, true, ◌&&◌, List, Option, is_some}
use Rattle.std.specs.List.{list_all}
use Rattle.std.specs.Option.{option_map_or}
use Rattle.settings_core.specs.Settings.{knows, level_named, lifecycle_named}
use Rattle.settings_core.specs.declared.settings.Settings.{Settings}
use Rattle.desk_model.specs.Desk.{Desk, Request, queue_at}
use Rattle.desk_model.specs.Lifecycles.{has_status, lifecycle_of}
use Rattle.desk_model.specs.declared.rows.QueueRow.{QueueRow}
use Rattle.desk_model.specs.declared.rows.RequestRow.{RequestRow}

-- a level that is given is one of the settings
abbrev pub knows_level : Settings → Option (List ℕ) → Bool
knows_level settings level = option_map_or (λ l. is_some (level_named settings l)) level true

-- an owner, if there is one, is a person of the settings
abbrev pub knows_owner : Settings → Option (List ℕ) → Bool
knows_owner settings owner = option_map_or (knows settings) owner true

abbrev pub knows_queue : Settings → QueueRow → Bool
knows_queue settings queue =
    is_some (lifecycle_named settings queue.lifecycle) && knows_level settings queue.level

-- the status is one of the lifecycle of the request's queue
abbrev pub knows_status : Settings → Desk → RequestRow → Bool
knows_status settings desk row =
    has_status (lifecycle_of settings (queue_at desk row.queue)) row.status

abbrev pub knows_row : Settings → Desk → RequestRow → Bool
knows_row settings desk row =
    knows_status settings desk row
    && (knows_level settings row.level && knows_owner settings row.owner)

abbrev pub knows_persons : Settings → Request → Bool
knows_persons settings request =
    list_all (knows settings) request.requestors
    && (list_all (knows settings) request.cc && list_all (knows settings) request.admin_cc)

abbrev pub knows_actors : Settings → Request → Bool
knows_actors settings request = list_all (λ e. knows settings e.actor) request.entries

-- the settings know the lifecycle and the level of each queue; and of each request the status, the
-- level, the owner, its persons and those who made its entries
unfoldable pub is_known : Settings → Desk → Bool
is_known settings desk =
    list_all (knows_queue settings) desk.queues
    && (list_all (λ r. knows_row settings desk r.row) desk.requests
    && (list_all (knows_persons settings) desk.requests
    && list_all (knows_actors settings) desk.requests))
