-- Why a text states no settings, and where that stands.
use Rattle.std.specs.Prelude.{◌≡◌, ℕ, List, Some, IsSomeAnd, ⊤}
use Rattle.toml.specs.Data.{Members}
use Rattle.toml.specs.Errors.{span_start}
use Rattle.toml.specs.View.{table_view}
use Rattle.settings_form.specs.Text.{IsTree}
use Rattle.settings_core.specs.Reading.{fault_of}
use Rattle.settings_places.specs.Lines.{column_at, line_at}
use Rattle.settings_places.specs.Place.{place_of_fault}
use Rattle.settings_places.specs.Placed.{HasFault}
use Rattle.settings_places.specs.declared.reading.PlacedFault.{PlacedFault}
use Rattle.settings_places.specs.declared.reading.TomlFault.{TomlFault}
use Rattle.settings_places.specs.declared.reading.Unread.{Unread}
use Rattle.settings_places.specs.declared.reading.Unread.TheVariants.{NotToml, Fault, NoMemory}

-- the fault is the least of the tree, it has a place, and what stands there has it
pub record IsPlaced (ms : Members) (placed : PlacedFault) : Type 0 where
  pub least : fault_of ms ≡ Some placed.fault
  pub place : IsSomeAnd (place_of_fault ms placed.fault) (HasFault ms placed.fault)

-- the bytes are no tree, and the line and the column are those at which the reader stops
pub record IsNoToml (bytes : List ℕ) (told : TomlFault) : Type 0 where
  pub none : (ms : Members) → IsTree bytes ms → ⊥
  pub line : told.at.line ≡ line_at bytes (span_start told.error)
  pub column : told.at.column ≡ column_at bytes (span_start told.error)

-- why the bytes state no settings: no TOML; a fault in their tree, with its place; or memory
abbrev pub IsUnread : List ℕ → Unread → Type 0
IsUnread bytes (NotToml told) = IsNoToml bytes told
IsUnread bytes (Fault told) = IsTree bytes (table_view told.table) × IsPlaced (table_view told.table) told
IsUnread bytes NoMemory = ⊤
