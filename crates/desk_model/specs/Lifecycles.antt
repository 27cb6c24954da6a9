-- What the lifecycle of a queue says, if the queue is there and its lifecycle is known.
use Rattle.std.specs.Prelude.{ℕ, Bool, true, false, not, ◌&&◌, List, []}
use Rattle.std.specs.Prelude.{Option, Some, option_and_then, unwrap_or}
use Rattle.std.specs.Option.{option_map_or}
use Rattle.lifecycle_core.specs.Lifecycle.{class_of, is_status, may_create, may_move}
use Rattle.lifecycle_core.specs.Lifecycle.{reopening_target, right_of_move}
use Rattle.lifecycle_core.specs.declared.lifecycle.Class.{Class}
use Rattle.lifecycle_core.specs.declared.lifecycle.Class.TheVariants.{Initial, Inactive}
use Rattle.lifecycle_core.specs.declared.parts.Parts.{Parts}
use Rattle.settings_core.specs.Settings.{lifecycle_named}
use Rattle.settings_core.specs.declared.settings.Settings.{Settings}
use Rattle.desk_model.specs.declared.rows.QueueRow.{QueueRow}

abbrev pub lifecycle_of : Settings → Option QueueRow → Option Parts
lifecycle_of settings queue = option_and_then (λ q. lifecycle_named settings q.lifecycle) queue

abbrev pub has_status : Option Parts → List ℕ → Bool
has_status lifecycle status = option_map_or (λ l. is_status l status) lifecycle false

-- a status that is given is one of the lifecycle's
abbrev pub has_given : Option Parts → Option (List ℕ) → Bool
has_given lifecycle given = option_map_or (has_status lifecycle) given true

-- the status of a new request: the one given, or else its lifecycle's status on create
abbrev pub first_status : Option Parts → Option (List ℕ) → List ℕ
first_status lifecycle given = unwrap_or given (option_map_or (λ l. l.on_create) lifecycle [])

abbrev pub is_creatable : Option Parts → List ℕ → Bool
is_creatable lifecycle status = option_map_or (λ l. may_create l status) lifecycle false

abbrev pub is_allowed : Option Parts → List ℕ → List ℕ → Bool
is_allowed lifecycle from to = option_map_or (λ l. may_move l from to) lifecycle false

-- the right that a move asks for
abbrev pub right_of : Option Parts → List ℕ → List ℕ → List ℕ
right_of lifecycle from to = option_map_or (λ l. right_of_move l from to) lifecycle []

-- the status to which a request is opened again
abbrev pub reopening_of : Option Parts → List ℕ → Option (List ℕ)
reopening_of lifecycle from = option_and_then (λ l. reopening_target l from) lifecycle

abbrev pub is_inactive_class : Option Class → Bool
is_inactive_class (Some Inactive) = true
is_inactive_class other = false

abbrev pub is_inactive : Option Parts → List ℕ → Bool
is_inactive lifecycle status =
    is_inactive_class (option_and_then (λ l. class_of l status) lifecycle)

abbrev pub is_initial_class : Option Class → Bool
is_initial_class (Some Initial) = true
is_initial_class other = false

abbrev pub is_initial : Option Parts → List ℕ → Bool
is_initial lifecycle status = is_initial_class (option_and_then (λ l. class_of l status) lifecycle)

-- a move out of the inactive statuses, which opens a request anew
abbrev pub opens_anew : Option Parts → List ℕ → List ℕ → Bool
opens_anew lifecycle from to = is_inactive lifecycle from && not (is_inactive lifecycle to)
