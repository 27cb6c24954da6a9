-- Makes the caller the owner of a request that nobody owns.
use Rattle.std.specs.Prelude.{not, List, [], ◌∷◌, Some, is_some}
use Rattle.rights_core.specs.Right.{own_ticket, take_ticket}
use Rattle.desk_model.specs.Condition.{Condition}
use Rattle.desk_model.specs.Entries.{giving_owner, lacks_room}
use Rattle.desk_model.specs.Plan.{Call}
use Rattle.desk_model.specs.Rights.{holds_on, owns}
use Rattle.desk_model.specs.declared.change.Change.{Change}
use Rattle.desk_model.specs.declared.facts.Facts.{Facts}
use Rattle.desk_model.specs.declared.facts.SeenRequest.{SeenRequest}
use Rattle.desk_model.specs.declared.refusal.Refusal.TheVariants.{Denied, NoChange, Owned, Full}

abbrev pub conditions : Call → Facts → SeenRequest → List Condition
conditions call facts request =
    (Denied take_ticket, not (holds_on call.settings call.caller take_ticket request))
    ∷ (Denied own_ticket, not (holds_on call.settings call.caller own_ticket request))
    ∷ (NoChange, owns call.caller request)
    ∷ (Owned, is_some request.row.owner)
    ∷ (Full, lacks_room call request 1)
    ∷ []

abbrev pub change : Call → Facts → SeenRequest → Change
change call facts request = giving_owner (Some call.caller) call request
