-- Who may show a request, by a list of watchers.
use Rattle.std.specs.Prelude.{◌≡◌, ℕ, List}
use Rattle.text_core.specs.Texts.{is_among}
use Rattle.settings_core.specs.declared.settings.Settings.{Settings}
use Rattle.desk_model.specs.Commands.Watch.{persons_in}
use Rattle.desk_model.specs.Desk.{Request}
use Rattle.desk_model.specs.Facts.{seen_request}
use Rattle.desk_model.specs.Rights.{may_show}
use Rattle.desk_model.specs.Watchers.{is_watching, may_show_by, watchers_of}
use Rattle.desk_model.specs.declared.rows.Watcher.{Watcher}
use Rattle.desk_model.specs.declared.rows.WatchRole.{WatchRole}

-- in the list the person stands in a role of the request exactly where the request has the person
-- in that role
abbrev pub TellsRoles : List ℕ → Request → List Watcher → Type 0
TellsRoles person request watchers =
    (role : WatchRole)
    → is_watching person request.row.id role watchers
    ≡ is_among (persons_in role (seen_request request)) person

-- Such a list tells whether the person may show the request.
abbrev pub ShowsByList : Settings → List ℕ → Request → List Watcher → Type 0
ShowsByList settings person request watchers =
    TellsRoles person request watchers
    → may_show_by settings person request.row watchers
    ≡ may_show settings person (seen_request request)

-- The rows of a request's people tell who may show it.
abbrev pub ShowsByWatchers : Settings → List ℕ → Request → Type 0
ShowsByWatchers settings person request =
    may_show_by settings person request.row (watchers_of request)
    ≡ may_show settings person (seen_request request)
