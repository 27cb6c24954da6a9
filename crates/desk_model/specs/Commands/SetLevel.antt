-- Gives a request another level, or none.
use Rattle.std.specs.Prelude.{ℕ, Bool, true, false, not, List, [], ◌∷◌}
use Rattle.std.specs.Prelude.{Option, Some, None, unwrap_or, codes}
use Rattle.std.specs.Str.{bytes_eq}
use Rattle.rights_core.specs.Right.{modify_ticket}
use Rattle.desk_model.specs.Change.{revising, with_level}
use Rattle.desk_model.specs.Condition.{Condition}
use Rattle.desk_model.specs.Entries.{entry_of, lacks_room}
use Rattle.desk_model.specs.Known.{knows_level}
use Rattle.desk_model.specs.Plan.{Call}
use Rattle.desk_model.specs.Rights.{holds_on}
use Rattle.desk_model.specs.declared.change.Change.{Change}
use Rattle.desk_model.specs.declared.facts.Facts.{Facts}
use Rattle.desk_model.specs.declared.facts.SeenRequest.{SeenRequest}
use Rattle.desk_model.specs.declared.refusal.Refusal.TheVariants.{UnknownName, Denied}
use Rattle.desk_model.specs.declared.refusal.Refusal.TheVariants.{NoChange, Full}
use Rattle.desk_model.specs.declared.rows.EntryKind.TheVariants as kind

abbrev pub is_same_level : Option (List ℕ) → Option (List ℕ) → Bool
is_same_level None None = true
is_same_level (Some a) (Some b) = bytes_eq a b
is_same_level a b = false

abbrev pub conditions : Option (List ℕ) → Call → Facts → SeenRequest → List Condition
conditions level call facts request =
    (UnknownName, not (knows_level call.settings level))
    ∷ (Denied modify_ticket, not (holds_on call.settings call.caller modify_ticket request))
    ∷ (NoChange, is_same_level request.row.level level)
    ∷ (Full, lacks_room call request 1)
    ∷ []

-- a level in an entry, or a dash for none
abbrev pub level_word : Option (List ℕ) → List ℕ
level_word level = unwrap_or level (codes "-")

abbrev pub change : Option (List ℕ) → Call → Facts → SeenRequest → Change
change level call facts request =
    revising (with_level level request.row)
    (entry_of call request 1 kind.Level (level_word request.row.level) (level_word level) ∷ [])
