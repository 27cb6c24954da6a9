-- What a change does to the desk.
use Rattle.std.specs.Prelude.{ℕ, not, List, [], ◌∷◌}
use Rattle.std.specs.Prelude.{◌++◌, Option, Some, None, filter, fold, if◌then◌else◌}
use Rattle.std.specs.Str.{bytes_eq}
use Rattle.lifecycle_core.specs.declared.parts.Parts.{Parts}
use Rattle.desk_model.specs.Names.{with_name}
use Rattle.desk_model.specs.Desk.{Desk, Request, placed, with_queue, with_request, with_revised}
use Rattle.desk_model.specs.Lifecycles.{opens_anew}
use Rattle.desk_model.specs.Links.{is_link, is_lower_link}
use Rattle.desk_model.specs.declared.change.Change.{Change}
use Rattle.desk_model.specs.declared.rows.Entry.{Entry}
use Rattle.desk_model.specs.declared.rows.LinkRow.{LinkRow}
use Rattle.desk_model.specs.declared.rows.QueueRow.{QueueRow}
use Rattle.desk_model.specs.declared.rows.RequestRow.{RequestRow}
use Rattle.desk_model.specs.declared.rows.Watcher.{Watcher}
use Rattle.desk_model.specs.declared.rows.WatchRole.{WatchRole}
use Rattle.desk_model.specs.declared.rows.WatchRole.TheVariants.{Requestor, Cc, AdminCc}

abbrev pub no_change : Change
no_change =
    record {
      queue = None;
      filed = None;
      row = None;
      due = None;
      stays = [];
      put = [];
      taken = [];
      linked = None;
      unlinked = None;
      entries = [];
    }

-- a queue is opened
abbrev pub opening : QueueRow → Change
opening queue = record no_change { queue = Some queue }

-- a row with another owner, or with none
abbrev pub with_owner : Option (List ℕ) → RequestRow → RequestRow
with_owner owner row = record row { owner = owner }

-- a row with another level, or with none
abbrev pub with_level : Option (List ℕ) → RequestRow → RequestRow
with_level level row = record row { level = level }

-- a row after a move
abbrev pub row_in_status : Option Parts → ℕ → List ℕ → RequestRow → RequestRow
row_in_status lifecycle at status row =
    let anew = opens_anew lifecycle row.status status in
    record row {
      status = status;
      opened = if anew then at else row.opened;
      since = if anew then at else row.since;
    }

-- a request is filed, with the persons in its roles
abbrev pub filing : RequestRow → List Watcher → List Entry → Change
filing row watchers entries =
    record no_change { filed = Some row; put = watchers; entries = entries }

-- a request's history gets entries
abbrev pub noting : List Entry → Change
noting entries = record no_change { entries = entries }

-- a request gets another row
abbrev pub revising : RequestRow → List Entry → Change
revising row entries = record no_change { row = Some row; entries = entries }

-- persons are put into roles on a request
abbrev pub putting : List Watcher → List Entry → Change
putting watchers entries = record no_change { put = watchers; entries = entries }

-- persons are taken out of roles on a request
abbrev pub taking : List Watcher → List Entry → Change
taking watchers entries = record no_change { taken = watchers; entries = entries }

-- a request is linked with another one
abbrev pub linking : LinkRow → List Entry → Change
linking link entries = record no_change { linked = Some link; entries = entries }

-- the link of a request with another one goes
abbrev pub unlinking : LinkRow → List Entry → Change
unlinking link entries = record no_change { unlinked = Some link; entries = entries }

-- a request as it is filed
abbrev pub filed : RequestRow → Request
filed row = record { row = row; requestors = []; cc = []; admin_cc = []; entries = [] }

abbrev pub with_row : RequestRow → Request → Request
with_row row request = record request { row = row }

-- the request with what becomes of the persons in a role
abbrev pub in_role : WatchRole → (List (List ℕ) → List (List ℕ)) → Request → Request
in_role Requestor revised request = record request { requestors = revised request.requestors }
in_role Cc revised request = record request { cc = revised request.cc }
in_role AdminCc revised request = record request { admin_cc = revised request.admin_cc }

abbrev pub without_name : List (List ℕ) → List ℕ → List (List ℕ)
without_name names name = filter (λ n. not (bytes_eq n name)) names

abbrev pub with_entry : Entry → Request → Request
with_entry entry request = record request { entries = request.entries ++ entry ∷ [] }

abbrev pub queue_put : Option QueueRow → Desk → Desk
queue_put None desk = desk
queue_put (Some queue) desk = with_queue desk queue

abbrev pub request_filed : Option RequestRow → Desk → Desk
request_filed None desk = desk
request_filed (Some row) desk = with_request desk (filed row)

abbrev pub row_set : Option RequestRow → Desk → Desk
row_set None desk = desk
row_set (Some row) desk = with_revised desk row.id (with_row row)

abbrev pub person_put : Desk → Watcher → Desk
person_put desk w = with_revised desk w.id (in_role w.role (λ names. with_name names w.person))

abbrev pub person_taken : Desk → Watcher → Desk
person_taken desk w = with_revised desk w.id (in_role w.role (λ names. without_name names w.person))

abbrev pub link_put : Option LinkRow → Desk → Desk
link_put None desk = desk
link_put (Some link) desk = record desk { links = placed is_lower_link desk.links link }

abbrev pub link_taken : Option LinkRow → Desk → Desk
link_taken None desk = desk
link_taken (Some link) desk = record desk { links = filter (λ l. not (is_link link l)) desk.links }

abbrev pub entry_put : Desk → Entry → Desk
entry_put desk entry = with_revised desk entry.id (with_entry entry)

-- the desk after a change
abbrev pub applied : Change → Desk → Desk
applied change desk =
    let rows = row_set change.row (request_filed change.filed (queue_put change.queue desk)) in
    let persons = fold person_taken (fold person_put rows change.put) change.taken in
    let links = link_taken change.unlinked (link_put change.linked persons) in
    fold entry_put links change.entries
