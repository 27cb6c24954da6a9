-- Comments on a request.
use Rattle.std.specs.Prelude.{ℕ, not, List, [], ◌∷◌}
use Rattle.rights_core.specs.Right.{comment_on_ticket}
use Rattle.desk_model.specs.Change.{noting}
use Rattle.desk_model.specs.Condition.{Condition}
use Rattle.desk_model.specs.Entries.{entry_of, lacks_room}
use Rattle.desk_model.specs.Plan.{Call}
use Rattle.desk_model.specs.Rights.{holds_on}
use Rattle.desk_model.specs.declared.change.Change.{Change}
use Rattle.desk_model.specs.declared.facts.Facts.{Facts}
use Rattle.desk_model.specs.declared.facts.SeenRequest.{SeenRequest}
use Rattle.desk_model.specs.declared.refusal.Refusal.TheVariants.{Denied, Full}
use Rattle.desk_model.specs.declared.rows.EntryKind.TheVariants as kind

abbrev pub conditions : Call → Facts → SeenRequest → List Condition
conditions call facts request =
    (Denied comment_on_ticket, not (holds_on call.settings call.caller comment_on_ticket request))
    ∷ (Full, lacks_room call request 1)
    ∷ []

abbrev pub change : List ℕ → Call → Facts → SeenRequest → Change
change text call facts request = noting (entry_of call request 1 kind.Comment [] text ∷ [])
