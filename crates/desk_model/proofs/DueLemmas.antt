-- Where no level ignores a status, due moments are by all minutes.
use Rattle.std.proofs.Common.{◌≡◌, ℕ, Bool, List, [], Option, Some, None, IfSome, refl, ap}
use Rattle.std.proofs.Common.{if◌then◌else◌, option_and_then}
use Rattle.hours_core.specs.Calendar.{opens}
use Rattle.hours_core.specs.declared.level.Level.{Level}
use Rattle.hours_core.specs.declared.level.Limit.{Limit}
use Rattle.hours_core.specs.declared.stay.Stay.{Stay}
use Rattle.hours_core.proofs.LimitLemmas.{due_without_pause, ignores_none}
use Rattle.lifecycle_core.specs.Lifecycle.{class_of}
use Rattle.settings_core.specs.Settings.{calendar_named, level_named, lifecycle_named}
use Rattle.settings_core.specs.declared.settings.Settings.{Settings}
use Rattle.desk_model.specs.Desk.{Desk, Request, queue_at}
use Rattle.desk_model.specs.Due.{IgnoreNone, due_at_level, due_by, due_of, due_of_limit}
use Rattle.desk_model.specs.Due.{due_on, is_live_class, level_of, limit_on_turn}
use Rattle.desk_model.specs.Due.{plain_due_on, plain_rule, rule_of}
use Rattle.desk_model.specs.Stays.{stays_of}
use Rattle.desk_model.specs.declared.rows.QueueRow.{QueueRow}
use Rattle.desk_model.specs.declared.rows.RequestRow.{RequestRow}

-- what follows of something is the same, where it is so of what is there
then_same : {A : Type 0} (f g : A → Option ℕ) (o : Option A) → IfSome o (λ a. f a ≡ g a)
    → option_and_then f o ≡ option_and_then g o
then_same f g None same = refl
then_same f g (Some a) same = same

each_same : {A : Type 0} (f g : A → Option ℕ) (o : Option A) → ((a : A) → f a ≡ g a)
    → option_and_then f o ≡ option_and_then g o
each_same f g None same = refl
each_same f g (Some a) same = same a

-- of a level that ignores no status each limit is
limit_same : (stays : List Stay) (o : ℕ → Bool) (level : Level) (from : ℕ) (limit : Option Limit)
    → level.ignore ≡ []
    → due_of_limit (rule_of stays) o level from limit ≡ due_of_limit plain_rule o level from limit
limit_same stays o level from limit none =
    each_same (rule_of stays o level from) (plain_rule o level from) limit
    (λ l. due_without_pause o level stays from l
    (rw none (ignores_none stays)))

level_same : (settings : Settings) (stays : List Stay) (row : RequestRow) (level : Level)
    → level.ignore ≡ []
    → due_at_level (rule_of stays) settings row level ≡ due_at_level plain_rule settings row level
level_same settings stays row level none =
    each_same _ _ (calendar_named settings level.calendar)
    (λ calendar. rw (
      limit_same stays (opens calendar) level row.opened level.resolve none,
      limit_same stays (opens calendar) level row.since (limit_on_turn level row.turn) none,
    ) refl)

-- the level that a request has ignores no status
level_ignores : (settings : Settings) (name : Option (List ℕ)) → IgnoreNone settings
    → IfSome (option_and_then (level_named settings) name) (λ level. level.ignore ≡ [])
level_ignores settings None none = tt
level_ignores settings (Some name) none = none name

of_levels : (settings : Settings) (stays : List Stay) (row : RequestRow) (level : Option Level)
    → IfSome level (λ l. l.ignore ≡ [])
    → option_and_then (due_at_level (rule_of stays) settings row) level
    ≡ option_and_then (due_at_level plain_rule settings row) level
of_levels settings stays row None none = refl
of_levels settings stays row (Some level) none = level_same settings stays row level none

due_same : (settings : Settings) (queue : QueueRow) (stays : List Stay) (row : RequestRow)
    → IgnoreNone settings
    → due_of settings queue stays row ≡ due_by plain_rule settings queue row
due_same settings queue stays row none =
    each_same _ _ (lifecycle_named settings queue.lifecycle)
    (λ lifecycle. ap (λ due. if is_live_class (class_of lifecycle row.status) then due else None)
    (of_levels settings stays row (level_of settings row)
    (level_ignores settings row.level none)))

pub plain_due : (settings : Settings) (desk : Desk) (request : Request) → IgnoreNone settings
    → due_on settings desk request ≡ plain_due_on settings desk request
plain_due settings desk request none =
    each_same _ _ (queue_at desk request.row.queue)
    (λ q. due_same settings q (stays_of request.entries) request.row none)
