-- The stays that the change of a command carries.
use Rattle.std.specs.Prelude.{◌≡◌, ℕ, ⊤, List, [], ◌∷◌, Option, Some, None, filter}
use Rattle.std.specs.Option.{option_map}
use Rattle.hours_core.specs.declared.stay.Stay.{Stay}
use Rattle.settings_core.specs.declared.settings.Settings.{Settings}
use Rattle.desk_model.specs.Change.{applied}
use Rattle.desk_model.specs.Dated.{either_row}
use Rattle.desk_model.specs.Desk.{Desk}
use Rattle.desk_model.specs.Facts.{stays_at}
use Rattle.desk_model.specs.IsDesk.{IsDesk}
use Rattle.desk_model.specs.Stays.{begins_stay}
use Rattle.desk_model.specs.Step.{call, facts_of, guard}
use Rattle.desk_model.specs.declared.change.Change.{Change}
use Rattle.desk_model.specs.declared.command.Command.{Command}
use Rattle.desk_model.specs.declared.rows.Entry.{Entry}
use Rattle.desk_model.specs.declared.rows.RequestRow.{RequestRow}
use Rattle.desk_core.specs.Decision.{change_of}

-- of entries, those that begin a stay
abbrev pub beginning : List Entry → List Entry
beginning entries = filter (λ e. begins_stay e.kind) entries

-- the request of this row, if there is a row, has these stays on the desk
abbrev pub HasStays : Desk → List Stay → Option RequestRow → Type 0
HasStays desk stays None = ⊤
HasStays desk stays (Some row) = stays ≡ stays_at desk row.id

-- at most one entry, on the request of this row
abbrev pub IsOneOf : Option RequestRow → List Entry → Type 0
IsOneOf row [] = ⊤
IsOneOf row (e ∷ []) = option_map (λ r. r.id) row ≡ Some e.id
IsOneOf row (e ∷ f ∷ rest) = ⊥

-- a change carries the stays that the request whose row it files or sets has afterwards, and at
-- most one of its entries begins a stay, on that request
pub record KeepsStays (desk : Desk) (change : Change) : Type 0 where
  pub filed : HasStays (applied change desk) change.stays change.filed
  pub set : HasStays (applied change desk) change.stays change.row
  pub begun : IsOneOf (either_row change.filed change.row) (beginning change.entries)

-- The carried law: where a command isn't refused, its change carries the stays that the request
-- whose row it puts has afterwards, and on no other request does a stay begin.
abbrev pub CarriesStays : Settings → ℕ → List ℕ → Command → Desk → Type 0
CarriesStays settings at caller command desk =
    IsDesk desk → guard settings at caller command desk ≡ None
    → KeepsStays desk (change_of (call settings at caller) (facts_of command desk) command)
