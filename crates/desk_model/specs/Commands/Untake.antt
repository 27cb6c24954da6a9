-- Leaves a request that the caller owns without an owner.
use Rattle.std.specs.Prelude.{not, List, [], ◌∷◌, None, is_none}
use Rattle.desk_model.specs.Condition.{Condition}
use Rattle.desk_model.specs.Entries.{giving_owner, lacks_room}
use Rattle.desk_model.specs.Plan.{Call}
use Rattle.desk_model.specs.Rights.{owns}
use Rattle.desk_model.specs.declared.change.Change.{Change}
use Rattle.desk_model.specs.declared.facts.Facts.{Facts}
use Rattle.desk_model.specs.declared.facts.SeenRequest.{SeenRequest}
use Rattle.desk_model.specs.declared.refusal.Refusal.TheVariants.{NotOwned, NotOwner, Full}

abbrev pub conditions : Call → Facts → SeenRequest → List Condition
conditions call facts request =
    (NotOwned, is_none request.row.owner)
    ∷ (NotOwner, not (owns call.caller request))
    ∷ (Full, lacks_room call request 1)
    ∷ []

abbrev pub change : Call → Facts → SeenRequest → Change
change call facts request = giving_owner None call request
