-- Tables that keep when each request of a desk is due.
use Rattle.std.specs.Prelude.{◌≡◌, ℕ, IfOk, List, None, Option, Result, option_and_then}
use Rattle.sqlite.specs.State.{State, HasCleanDisk}
use Rattle.settings_core.specs.declared.settings.Settings.{Settings}
use Rattle.desk_model.specs.Change.{applied}
use Rattle.desk_model.specs.Desk.{Desk, queue_at}
use Rattle.desk_model.specs.Due.{due_of}
use Rattle.desk_model.specs.Facts.{stays_at}
use Rattle.desk_model.specs.IsDesk.{IsDesk}
use Rattle.desk_model.specs.Step.{call, facts_of, guard}
use Rattle.desk_model.specs.declared.change.Change.{Change}
use Rattle.desk_model.specs.declared.command.Command.{Command}
use Rattle.desk_model.specs.declared.rows.RequestRow.{RequestRow}
use Rattle.desk_core.specs.Decision.{change_of}
use Rattle.store_tables.specs.Contents.{contents_of}
use Rattle.store_tables.specs.Stands.{HoldCommitted}
use Rattle.store_core.specs.Written.{dues_after}

-- when the request of a row is due on a desk, if its queue is there: by the stays of the request of
-- its number
abbrev pub due_of_row : Settings → Desk → RequestRow → Option ℕ
due_of_row settings desk row =
    option_and_then (λ q. due_of settings q (stays_at desk row.id) row) (queue_at desk row.queue)

-- the tables stand for the desk, and keep the due moment that each request has on it
abbrev pub RepresentsWithDue : Settings → Desk → State → Type 0
RepresentsWithDue settings desk = HoldCommitted (contents_of (due_of_row settings desk) desk)

-- what is answered is so of the desk that the tables stand for with its due moments
abbrev pub TellsDue : {X E : Type 0} → Settings → (Desk → X → Type 0) → State → State → Result X E
    → Type 0
TellsDue settings P old new result =
    (desk : Desk) → IsDesk desk → RepresentsWithDue settings desk old → HasCleanDisk new
    → IfOk result (P desk)

-- the due moments after a change are those of the desk after it
abbrev pub RenewsBy : Settings → Desk → Change → Type 0
RenewsBy settings desk change =
    contents_of (dues_after change (due_of_row settings desk)) (applied change desk)
    ≡ contents_of (due_of_row settings (applied change desk)) (applied change desk)

-- on a well-formed desk, those of the change of a command that isn't refused are
abbrev pub RenewsDues : Type 0
RenewsDues =
    (settings : Settings) (at : ℕ) (caller : List ℕ) (command : Command) (desk : Desk)
    → IsDesk desk → guard settings at caller command desk ≡ None
    → RenewsBy settings desk
    (change_of (call settings at caller) (facts_of command desk) command)
