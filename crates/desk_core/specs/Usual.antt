-- What is usual: which right a move asks for that no entry of a lifecycle names, and when a request
-- is due by a level that ignores no status.
use Rattle.std.specs.Prelude.{◌≡◌, ◌≢◌, ℕ, Bool, false, ◌&&◌, ◌||◌, List, Some, codes}
use Rattle.std.specs.List.{list_any}
use Rattle.std.specs.Str.{bytes_eq}
use Rattle.lifecycle_core.specs.Lifecycle.{any_status}
use Rattle.lifecycle_core.specs.declared.parts.Parts.{Parts}
use Rattle.rights_core.specs.Right.{delete_ticket, modify_ticket}
use Rattle.settings_core.specs.declared.settings.Settings.{Settings}
use Rattle.desk_model.specs.Desk.{Desk, Request}
use Rattle.desk_model.specs.Due.{IgnoreNone, due_on, plain_due_on}
use Rattle.desk_model.specs.Lifecycles.{right_of}

-- a status of a right's entry stands for this one
abbrev pub stands_for : List ℕ → List ℕ → Bool
stands_for named status = bytes_eq named status || bytes_eq named any_status

-- an entry of the lifecycle names the move: just it, or with one for any status
abbrev pub names_move : Parts → List ℕ → List ℕ → Bool
names_move lifecycle from to =
    list_any (λ e. stands_for e.from from && stands_for e.to to) lifecycle.rights

-- The usual right law: a move that no entry names asks for `DeleteTicket` where it is to `deleted`,
-- and for `ModifyTicket` where it isn't.
abbrev pub AsksUsualRight : Parts → List ℕ → List ℕ → Type 0
AsksUsualRight lifecycle from to =
    names_move lifecycle from to ≡ false
    → (to ≡ codes "deleted" → right_of (Some lifecycle) from to ≡ delete_ticket)
    × (to ≢ codes "deleted" → right_of (Some lifecycle) from to ≡ modify_ticket)

-- The plain due law: where no level ignores a status, a request is due as if every minute counted.
abbrev pub PlainDueLaw : Settings → Desk → Type 0
PlainDueLaw settings desk =
    IgnoreNone settings → (request : Request)
    → due_on settings desk request ≡ plain_due_on settings desk request
