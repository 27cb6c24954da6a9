-- Who may do what: the rights of a person on a queue and on a request.
use Rattle.std.specs.Prelude.{ℕ, Bool, false, List}
use Rattle.std.specs.Option.{option_map_or}
use Rattle.std.specs.Str.{bytes_eq}
use Rattle.rights_core.specs.Right.{see_queue, show_ticket, show_ticket_comments}
use Rattle.rights_core.specs.People.{holds, no_roles}
use Rattle.rights_core.specs.declared.role.Roles.{Roles}
use Rattle.text_core.specs.Texts.{is_among}
use Rattle.settings_core.specs.Settings.{people_of}
use Rattle.settings_core.specs.declared.settings.Settings.{Settings}
use Rattle.desk_model.specs.Desk.{Desk}
use Rattle.desk_model.specs.Facts.{seen_request_at}
use Rattle.desk_model.specs.declared.facts.SeenRequest.{SeenRequest}
use Rattle.desk_model.specs.declared.rows.QueueRow.{QueueRow}

abbrev pub owns : List ℕ → SeenRequest → Bool
owns person request = option_map_or (λ owner. bytes_eq owner person) request.row.owner false

-- the roles of a person on a request
abbrev pub roles_on : List ℕ → SeenRequest → Roles
roles_on person request =
    record {
      owner = owns person request;
      requestor = is_among request.requestors person;
      cc = is_among request.cc person;
      admin_cc = is_among request.admin_cc person;
    }

-- a right on a queue, where nobody has a role
abbrev pub holds_on_queue : Settings → List ℕ → List ℕ → List ℕ → Bool
holds_on_queue settings person right queue = holds (people_of settings) person right queue no_roles

abbrev pub sees_queue : Settings → List ℕ → QueueRow → Bool
sees_queue settings person queue = holds_on_queue settings person see_queue queue.name

-- a right on a request, held with the person's roles on it
abbrev pub holds_on : Settings → List ℕ → List ℕ → SeenRequest → Bool
holds_on settings person right request =
    holds (people_of settings) person right request.row.queue (roles_on person request)

abbrev pub may_show : Settings → List ℕ → SeenRequest → Bool
may_show settings person request = holds_on settings person show_ticket request

abbrev pub may_show_comments : Settings → List ℕ → SeenRequest → Bool
may_show_comments settings person request = holds_on settings person show_ticket_comments request

-- the request with that number is there, and the person may show it
abbrev pub is_shown : Settings → List ℕ → Desk → ℕ → Bool
is_shown settings person desk id =
    option_map_or (may_show settings person) (seen_request_at desk id) false
