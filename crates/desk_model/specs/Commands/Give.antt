-- Makes a person the owner of a request.
use Rattle.std.specs.Prelude.{ℕ, not, ◌||◌, Bool, List, [], ◌∷◌, Some}
use Rattle.rights_core.specs.Right.{own_ticket, reassign_ticket}
use Rattle.settings_core.specs.Settings.{knows}
use Rattle.desk_model.specs.Condition.{Condition}
use Rattle.desk_model.specs.Entries.{giving_owner, lacks_room}
use Rattle.desk_model.specs.Plan.{Call}
use Rattle.desk_model.specs.Rights.{holds_on, owns}
use Rattle.desk_model.specs.declared.change.Change.{Change}
use Rattle.desk_model.specs.declared.facts.Facts.{Facts}
use Rattle.desk_model.specs.declared.facts.SeenRequest.{SeenRequest}
use Rattle.desk_model.specs.declared.refusal.Refusal.TheVariants.{UnknownName, Denied}
use Rattle.desk_model.specs.declared.refusal.Refusal.TheVariants.{NoChange, Full}

-- the caller owns the request, or may give away what others own
abbrev pub may_give : Call → SeenRequest → Bool
may_give call request = owns call.caller request
    || holds_on call.settings call.caller reassign_ticket request

abbrev pub conditions : List ℕ → Call → Facts → SeenRequest → List Condition
conditions person call facts request =
    (UnknownName, not (knows call.settings person))
    ∷ (Denied reassign_ticket, not (may_give call request))
    ∷ (Denied own_ticket, not (holds_on call.settings person own_ticket request))
    ∷ (NoChange, owns person request)
    ∷ (Full, lacks_room call request 1)
    ∷ []

abbrev pub change : List ℕ → Call → Facts → SeenRequest → Change
change person call facts request = giving_owner (Some person) call request
