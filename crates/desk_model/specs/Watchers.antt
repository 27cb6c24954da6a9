-- The persons of a request as rows, each with the role.
use Rattle.std.specs.Prelude.{ℕ, Bool, true, false, ◌==◌, ◌&&◌, List, ◌++◌, map}
use Rattle.std.specs.List.{list_any}
use Rattle.std.specs.Option.{option_map_or}
use Rattle.std.specs.Str.{bytes_eq}
use Rattle.rights_core.specs.People.{holds}
use Rattle.rights_core.specs.Right.{show_ticket}
use Rattle.rights_core.specs.declared.role.Roles.{Roles}
use Rattle.settings_core.specs.Settings.{people_of}
use Rattle.settings_core.specs.declared.settings.Settings.{Settings}
use Rattle.desk_model.specs.Desk.{Request}
use Rattle.desk_model.specs.declared.rows.RequestRow.{RequestRow}
use Rattle.desk_model.specs.declared.rows.Watcher.{Watcher}
use Rattle.desk_model.specs.declared.rows.WatchRole.{WatchRole}
use Rattle.desk_model.specs.declared.rows.WatchRole.TheVariants.{Requestor, Cc, AdminCc}

abbrev pub is_role : WatchRole → WatchRole → Bool
is_role Requestor Requestor = true
is_role Cc Cc = true
is_role AdminCc AdminCc = true
is_role role other = false

abbrev pub watcher : ℕ → WatchRole → List ℕ → Watcher
watcher id role person = record { id = id; role = role; person = person }

-- the persons of a request, each with the role
abbrev pub watchers_of : Request → List Watcher
watchers_of request =
    map (watcher request.row.id Requestor) request.requestors
    ++ (map (watcher request.row.id Cc) request.cc
    ++ map (watcher request.row.id AdminCc) request.admin_cc)

-- the person is in that role on the request with that number
abbrev pub is_watching : List ℕ → ℕ → WatchRole → List Watcher → Bool
is_watching person id role watchers =
    list_any (λ w. w.id == id && (is_role role w.role && bytes_eq w.person person)) watchers

-- the roles of a person on a request; watchers of other requests don't count
abbrev pub roles_among : List ℕ → RequestRow → List Watcher → Roles
roles_among person row watchers =
    record {
      owner = option_map_or (λ owner. bytes_eq owner person) row.owner false;
      requestor = is_watching person row.id Requestor watchers;
      cc = is_watching person row.id Cc watchers;
      admin_cc = is_watching person row.id AdminCc watchers;
    }

-- the right to show a request, held with the person's roles on it
abbrev pub may_show_by : Settings → List ℕ → RequestRow → List Watcher → Bool
may_show_by settings person row watchers =
    holds (people_of settings) person show_ticket row.queue (roles_among person row watchers)
