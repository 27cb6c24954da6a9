-- Takes a person out of a role on a request.
use Rattle.std.specs.Prelude.{ℕ, not, List, [], ◌∷◌}
use Rattle.rights_core.specs.Right.{modify_ticket}
use Rattle.settings_core.specs.Settings.{knows}
use Rattle.text_core.specs.Texts.{is_among}
use Rattle.desk_model.specs.Change.{taking}
use Rattle.desk_model.specs.Commands.Watch.{may_set_role, persons_in, role_word}
use Rattle.desk_model.specs.Condition.{Condition}
use Rattle.desk_model.specs.Entries.{entry_of, lacks_room}
use Rattle.desk_model.specs.Plan.{Call}
use Rattle.desk_model.specs.Watchers.{watcher}
use Rattle.desk_model.specs.declared.change.Change.{Change}
use Rattle.desk_model.specs.declared.facts.Facts.{Facts}
use Rattle.desk_model.specs.declared.facts.SeenRequest.{SeenRequest}
use Rattle.desk_model.specs.declared.refusal.Refusal.TheVariants.{UnknownName, Denied}
use Rattle.desk_model.specs.declared.refusal.Refusal.TheVariants.{NoChange, Full}
use Rattle.desk_model.specs.declared.rows.EntryKind.TheVariants as kind
use Rattle.desk_model.specs.declared.rows.WatchRole.{WatchRole}

abbrev pub conditions : WatchRole → List ℕ → Call → Facts → SeenRequest → List Condition
conditions role person call facts request =
    (UnknownName, not (knows call.settings person))
    ∷ (Denied modify_ticket, not (may_set_role role person call request))
    ∷ (NoChange, not (is_among (persons_in role request) person))
    ∷ (Full, lacks_room call request 1)
    ∷ []

abbrev pub change : WatchRole → List ℕ → Call → Facts → SeenRequest → Change
change role person call facts request =
    taking (watcher request.row.id role person ∷ [])
    (entry_of call request 1 kind.Unwatch (role_word role) person ∷ [])
