-- Moves a request to another status.
use Rattle.std.specs.Prelude.{ℕ, Bool, not, ◌&&◌, List, [], ◌∷◌}
use Rattle.std.specs.List.{list_any}
use Rattle.std.specs.Str.{bytes_eq}
use Rattle.settings_core.specs.Settings.{lifecycle_named}
use Rattle.settings_core.specs.declared.settings.Settings.{Settings}
use Rattle.desk_model.specs.Change.{revising, row_in_status}
use Rattle.desk_model.specs.Condition.{Condition}
use Rattle.desk_model.specs.Entries.{lacks_room, moving}
use Rattle.desk_model.specs.Lifecycles.{has_status, is_allowed, is_inactive}
use Rattle.desk_model.specs.Lifecycles.{lifecycle_of, right_of}
use Rattle.desk_model.specs.Plan.{Call}
use Rattle.desk_model.specs.Rights.{holds_on}
use Rattle.desk_model.specs.declared.change.Change.{Change}
use Rattle.desk_model.specs.declared.facts.Dependency.{Dependency}
use Rattle.desk_model.specs.declared.facts.Facts.{Facts}
use Rattle.desk_model.specs.declared.facts.SeenRequest.{SeenRequest}
use Rattle.desk_model.specs.declared.refusal.Refusal.TheVariants.{UnknownName, Denied, NoChange}
use Rattle.desk_model.specs.declared.refusal.Refusal.TheVariants.{NoTransition, OpenDependency}
use Rattle.desk_model.specs.declared.refusal.Refusal.TheVariants.{Full}

-- a request that another one depends on isn't inactive
abbrev pub is_open_dependency : Settings → Dependency → Bool
is_open_dependency settings dependency =
    not (is_inactive (lifecycle_named settings dependency.lifecycle) dependency.status)

abbrev pub has_open_dependency : Settings → List Dependency → Bool
has_open_dependency settings dependencies = list_any (is_open_dependency settings) dependencies

abbrev pub conditions : List ℕ → Call → Facts → SeenRequest → List Condition
conditions status call facts request =
    let lifecycle = lifecycle_of call.settings facts.queue in
    let right = right_of lifecycle request.row.status status in
    (UnknownName, not (has_status lifecycle status))
    ∷ (Denied right, not (holds_on call.settings call.caller right request))
    ∷ (NoChange, bytes_eq request.row.status status)
    ∷ (NoTransition, not (is_allowed lifecycle request.row.status status))
    ∷ (
      OpenDependency,
      is_inactive lifecycle status
          && has_open_dependency call.settings facts.dependencies,
    )
    ∷ (Full, lacks_room call request 1)
    ∷ []

abbrev pub change : List ℕ → Call → Facts → SeenRequest → Change
change status call facts request =
    revising (row_in_status (lifecycle_of call.settings facts.queue) call.at status request.row)
    (moving call request 1 status ∷ [])
