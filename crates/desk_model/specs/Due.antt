-- When a request is due: the least of the limits of its level that count, unless its status is
-- inactive.
use Rattle.std.specs.Prelude.{◌≡◌, ℕ, Bool, true, false, nat_le, if◌then◌else◌, List, []}
use Rattle.std.specs.Prelude.{Option, Some, None, IfSome, option_and_then}
use Rattle.hours_core.specs.Calendar.{opens}
use Rattle.hours_core.specs.Limit.{limit_due, plain_due}
use Rattle.hours_core.specs.declared.level.Level.{Level}
use Rattle.hours_core.specs.declared.level.Limit.{Limit}
use Rattle.hours_core.specs.declared.stay.Stay.{Stay}
use Rattle.lifecycle_core.specs.Lifecycle.{class_of}
use Rattle.lifecycle_core.specs.declared.lifecycle.Class.{Class}
use Rattle.lifecycle_core.specs.declared.lifecycle.Class.TheVariants.{Initial, Active}
use Rattle.lifecycle_core.specs.declared.parts.Parts.{Parts}
use Rattle.settings_core.specs.Settings.{calendar_named, level_named, lifecycle_named}
use Rattle.settings_core.specs.declared.settings.Settings.{Settings}
use Rattle.desk_model.specs.Desk.{Desk, Request, queue_at}
use Rattle.desk_model.specs.Stays.{stays_of}
use Rattle.desk_model.specs.declared.rows.QueueRow.{QueueRow}
use Rattle.desk_model.specs.declared.rows.RequestRow.{RequestRow}
use Rattle.desk_model.specs.declared.rows.Turn.{Turn}
use Rattle.desk_model.specs.declared.rows.Turn.TheVariants as turn

-- the sooner of two moments, where there are any
abbrev pub sooner : Option ℕ → Option ℕ → Option ℕ
sooner None b = b
sooner (Some a) None = Some a
sooner (Some a) (Some b) = if nat_le a b then Some a else Some b

-- the limit of the turn: to respond, where it is the desk's, and to keep the requestor in the loop,
-- where it is the requestor's
abbrev pub limit_on_turn : Level → Turn → Option Limit
limit_on_turn level turn.Desk = level.response
limit_on_turn level turn.Requestor = level.keep_in_loop

-- when a limit of a level is due that is on what follows a moment
abbrev pub LimitRule : Type 0
LimitRule = (ℕ → Bool) → Level → ℕ → Limit → Option ℕ

-- by minutes that count: those of stays in a status that the level ignores don't
abbrev pub rule_of : List Stay → LimitRule
rule_of stays opens level from limit = limit_due opens level stays from limit

-- by all minutes, as if the level ignored no status
abbrev pub plain_rule : LimitRule
plain_rule opens level from limit = plain_due opens level.start_immediately from limit

-- when a limit from this moment on is due, if the level has it
abbrev pub due_of_limit : LimitRule → (ℕ → Bool) → Level → ℕ → Option Limit → Option ℕ
due_of_limit rule opens level from limit = option_and_then (rule opens level from) limit

-- the least of the limits: to resolve it, since it was opened, and that of the turn, since it began
abbrev pub least_due : LimitRule → (ℕ → Bool) → Level → RequestRow → Option ℕ
least_due rule opens level row =
    sooner (due_of_limit rule opens level row.opened level.resolve)
    (due_of_limit rule opens level row.since (limit_on_turn level row.turn))

-- by the hours of the level's calendar
abbrev pub due_at_level : LimitRule → Settings → RequestRow → Level → Option ℕ
due_at_level rule settings row level =
    option_and_then (λ calendar. least_due rule (opens calendar) level row)
    (calendar_named settings level.calendar)

abbrev pub is_live_class : Option Class → Bool
is_live_class (Some Initial) = true
is_live_class (Some Active) = true
is_live_class other = false

-- the level that a request has, if the settings know it
abbrev pub level_of : Settings → RequestRow → Option Level
level_of settings row = option_and_then (level_named settings) row.level

-- when a request is due by its level, if its status is a live one of the lifecycle
abbrev pub due_in : LimitRule → Settings → RequestRow → Parts → Option ℕ
due_in rule settings row lifecycle =
    if is_live_class (class_of lifecycle row.status)
    then option_and_then (due_at_level rule settings row) (level_of settings row)
    else None

-- when a request of this queue is due; never, where the settings lack one of its names
abbrev pub due_by : LimitRule → Settings → QueueRow → RequestRow → Option ℕ
due_by rule settings queue row =
    option_and_then (due_in rule settings row) (lifecycle_named settings queue.lifecycle)

-- when a request of this queue with these stays is due
abbrev pub due_of : Settings → QueueRow → List Stay → RequestRow → Option ℕ
due_of settings queue stays row = due_by (rule_of stays) settings queue row

-- when a request of the desk is due, if its queue is there
abbrev pub due_on : Settings → Desk → Request → Option ℕ
due_on settings desk request =
    option_and_then (λ q. due_of settings q (stays_of request.entries) request.row)
    (queue_at desk request.row.queue)

-- when it is due by all minutes
abbrev pub plain_due_on : Settings → Desk → Request → Option ℕ
plain_due_on settings desk request =
    option_and_then (λ q. due_by plain_rule settings q request.row)
    (queue_at desk request.row.queue)

-- no level ignores a status
abbrev pub IgnoreNone : Settings → Type 0
IgnoreNone settings =
    (name : List ℕ) → IfSome (level_named settings name) (λ level. level.ignore ≡ [])
