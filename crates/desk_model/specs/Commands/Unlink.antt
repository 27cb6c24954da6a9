-- Takes away the link of a request with another one.
use Rattle.std.specs.Prelude.{ℕ, not, List, [], ◌∷◌, decimal}
use Rattle.rights_core.specs.Right.{modify_ticket}
use Rattle.desk_model.specs.Change.{unlinking}
use Rattle.desk_model.specs.Commands.Link.{kind_word}
use Rattle.desk_model.specs.Condition.{Condition}
use Rattle.desk_model.specs.Entries.{entry_of, lacks_room}
use Rattle.desk_model.specs.Links.{link}
use Rattle.desk_model.specs.Plan.{Call}
use Rattle.desk_model.specs.Rights.{holds_on}
use Rattle.desk_model.specs.declared.change.Change.{Change}
use Rattle.desk_model.specs.declared.facts.Facts.{Facts}
use Rattle.desk_model.specs.declared.facts.SeenRequest.{SeenRequest}
use Rattle.desk_model.specs.declared.refusal.Refusal.TheVariants.{Denied, NoChange, Full}
use Rattle.desk_model.specs.declared.rows.EntryKind.TheVariants as entry
use Rattle.desk_model.specs.declared.rows.LinkKind.{LinkKind}

abbrev pub conditions : Call → Facts → SeenRequest → List Condition
conditions call facts request =
    (Denied modify_ticket, not (holds_on call.settings call.caller modify_ticket request))
    ∷ (NoChange, not facts.is_linked)
    ∷ (Full, lacks_room call request 1)
    ∷ []

abbrev pub change : LinkKind → ℕ → Call → Facts → SeenRequest → Change
change kind other call facts request =
    unlinking (link request.row.id kind other)
    (entry_of call request 1 entry.Unlink (kind_word kind) (decimal other) ∷ [])
