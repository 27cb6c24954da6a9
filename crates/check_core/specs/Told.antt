-- What is told of the tables of a connection, in words.
use Rattle.std.specs.Prelude.{◌≡◌, ◌⊎◌, ℕ, List, ◌++◌, None, Option, Some, codes, ⊤}
use Rattle.std.specs.Option.{option_map}
use Rattle.sqlite.specs.Held.{Held, state}
use Rattle.sqlite.specs.Order.{Row}
use Rattle.sqlite.specs.State.{State, HasCleanDisk}
use Rattle.sqlite.specs.Store.{Ghosts}
use Rattle.settings_core.specs.declared.settings.Settings.{Settings}
use Rattle.desk_model.specs.Desk.{Desk}
use Rattle.desk_model.specs.IsDesk.{IsDesk}
use Rattle.store_tables.specs.Calls.{LeavesTables}
use Rattle.store_tables.specs.Stands.{Represents}
use Rattle.store_tables.specs.declared.fault.StoreFault.{StoreFault}
use Rattle.store_tables.specs.declared.fault.StoreFault.TheVariants as store
use Rattle.check_core.specs.BadRows.{HasTablesOf, IsFirst}
use Rattle.check_core.specs.Columns.{tables_of}
use Rattle.check_core.specs.Rows.{Unknown, first_unknown}
use Rattle.check_core.specs.Words.{bad_text, unknown_text}
use Rattle.check_core.specs.declared.columns.Table.{Table}
use Rattle.check_core.specs.declared.columns.Version.{Version}

-- ---- lines

abbrev pub fault_text : StoreFault → List ℕ
fault_text store.WrongVersion = codes "the tables are of another version"
fault_text store.Mismatch = codes "a row of the tables is no value of its type"
fault_text store.Refused = codes "a statement or memory was refused"

abbrev pub name_line : List ℕ → List ℕ
name_line name = codes "attach: " ++ name

abbrev pub row_line : Table × (Row × ℕ) → List ℕ
row_line bad = codes "attach: " ++ bad_text bad.0 bad.1.0 bad.1.1

-- rows that could not be read
abbrev pub unread_line : StoreFault → List ℕ
unread_line fault = codes "attach: the tables could not be read: " ++ fault_text fault

-- a version that is another, or could not be read
abbrev pub version_line : StoreFault → List ℕ
version_line store.Mismatch =
    codes "store: the table `meta`: its version is no value of its type"
version_line fault = codes "store: " ++ fault_text fault

-- ---- what is told

-- of a desk the first name that the settings don't know, and nothing where they know each
abbrev pub IsToldOfDesk : Settings → Desk → Option (List ℕ) → Type 0
IsToldOfDesk settings desk told =
    told ≡ option_map (λ found. name_line (unknown_text found)) (first_unknown settings desk)

-- What is told of tables, which are let go: where they stand for a desk, that of the desk, unless the
-- store or memory refuses to read them.
pub record IsToldOf {S : Type 0} (g : Ghosts S) (settings : Settings) (old : State)
    (told : Option (List ℕ)) : Type 0 where
  pub left : Held S
  pub kept : LeavesTables old (state g left)
  pub desk : (desk : Desk) → IsDesk desk → Represents desk old → HasCleanDisk (state g left)
      → IsToldOfDesk settings desk told ⊎ (told ≡ Some (unread_line store.Refused))

-- a bad row is told by its line
abbrev pub IsTellingRow : Option (Table × (Row × ℕ)) → Option (List ℕ) → Type 0
IsTellingRow None told = ⊤
IsTellingRow (Some bad) told = told ≡ Some (row_line bad)

-- what is told of the rows of tables of a version: the first that is bad, if one is, unless the store
-- or memory refuses to read them
abbrev pub IsToldOfRows : Version → State → Option (List ℕ) → Type 0
IsToldOfRows v s told =
    ((found : Option (Table × (Row × ℕ))) × IsFirst (tables_of v) found s.now
    × IsTellingRow found told)
    ⊎ ((fault : StoreFault) × (told ≡ Some (unread_line fault)))

-- What is told of the rows of tables of a version, which are let go.
pub record AreRowsTold {S : Type 0} (g : Ghosts S) (v : Version) (old : State)
    (told : Option (List ℕ)) : Type 0 where
  pub left : Held S
  pub kept : LeavesTables old (state g left)
  pub rows : HasTablesOf v old → HasCleanDisk (state g left) → IsToldOfRows v old told
