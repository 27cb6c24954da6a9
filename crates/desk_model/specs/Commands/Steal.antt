-- Makes the caller the owner of a request that another person owns.
use Rattle.std.specs.Prelude.{not, List, [], ◌∷◌, Some, is_none}
use Rattle.rights_core.specs.Right.{own_ticket, steal_ticket}
use Rattle.desk_model.specs.Condition.{Condition}
use Rattle.desk_model.specs.Entries.{giving_owner, lacks_room}
use Rattle.desk_model.specs.Plan.{Call}
use Rattle.desk_model.specs.Rights.{holds_on, owns}
use Rattle.desk_model.specs.declared.change.Change.{Change}
use Rattle.desk_model.specs.declared.facts.Facts.{Facts}
use Rattle.desk_model.specs.declared.facts.SeenRequest.{SeenRequest}
use Rattle.desk_model.specs.declared.refusal.Refusal.TheVariants.{Denied, NoChange, NotOwned, Full}

abbrev pub conditions : Call → Facts → SeenRequest → List Condition
conditions call facts request =
    (Denied steal_ticket, not (holds_on call.settings call.caller steal_ticket request))
    ∷ (Denied own_ticket, not (holds_on call.settings call.caller own_ticket request))
    ∷ (NoChange, owns call.caller request)
    ∷ (NotOwned, is_none request.row.owner)
    ∷ (Full, lacks_room call request 1)
    ∷ []

abbrev pub change : Call → Facts → SeenRequest → Change
change call facts request = giving_owner (Some call.caller) call request
