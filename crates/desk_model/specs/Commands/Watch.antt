-- Puts a person into a role on a request.
use Rattle.std.specs.Prelude.{ℕ, Bool, not, ◌&&◌, ◌||◌, List, [], ◌∷◌, codes}
use Rattle.std.specs.Str.{bytes_eq}
use Rattle.rights_core.specs.Right.{modify_ticket, watch, watch_as_admin_cc}
use Rattle.settings_core.specs.Settings.{knows}
use Rattle.text_core.specs.Texts.{is_among}
use Rattle.desk_model.specs.Change.{putting}
use Rattle.desk_model.specs.Condition.{Condition}
use Rattle.desk_model.specs.Entries.{entry_of, lacks_room}
use Rattle.desk_model.specs.Plan.{Call}
use Rattle.desk_model.specs.Rights.{holds_on}
use Rattle.desk_model.specs.Watchers.{watcher}
use Rattle.desk_model.specs.declared.change.Change.{Change}
use Rattle.desk_model.specs.declared.facts.Facts.{Facts}
use Rattle.desk_model.specs.declared.facts.SeenRequest.{SeenRequest}
use Rattle.desk_model.specs.declared.refusal.Refusal.TheVariants.{UnknownName, Denied}
use Rattle.desk_model.specs.declared.refusal.Refusal.TheVariants.{NoChange, Full}
use Rattle.desk_model.specs.declared.rows.EntryKind.TheVariants as kind
use Rattle.desk_model.specs.declared.rows.WatchRole.{WatchRole}
use Rattle.desk_model.specs.declared.rows.WatchRole.TheVariants.{Requestor, Cc, AdminCc}

abbrev pub persons_in : WatchRole → SeenRequest → List (List ℕ)
persons_in Requestor request = request.requestors
persons_in Cc request = request.cc
persons_in AdminCc request = request.admin_cc

-- the right to put oneself into a role
abbrev pub right_to_watch : WatchRole → List ℕ
right_to_watch Requestor = watch
right_to_watch Cc = watch
right_to_watch AdminCc = watch_as_admin_cc

abbrev pub role_word : WatchRole → List ℕ
role_word Requestor = codes "requestor"
role_word Cc = codes "cc"
role_word AdminCc = codes "admincc"

-- the caller may modify the request, or names himself and may watch it: to put into a role, and to
-- take out of it
abbrev pub may_set_role : WatchRole → List ℕ → Call → SeenRequest → Bool
may_set_role role person call request =
    holds_on call.settings call.caller modify_ticket request
    || (bytes_eq person call.caller
    && holds_on call.settings call.caller (right_to_watch role) request)

abbrev pub conditions : WatchRole → List ℕ → Call → Facts → SeenRequest → List Condition
conditions role person call facts request =
    (UnknownName, not (knows call.settings person))
    ∷ (Denied modify_ticket, not (may_set_role role person call request))
    ∷ (NoChange, is_among (persons_in role request) person)
    ∷ (Full, lacks_room call request 1)
    ∷ []

abbrev pub change : WatchRole → List ℕ → Call → Facts → SeenRequest → Change
change role person call facts request =
    putting (watcher request.row.id role person ∷ [])
    (entry_of call request 1 kind.Watch (role_word role) person ∷ [])
