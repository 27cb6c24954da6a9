-- A desk over the tables of a store: what is opened, and what is told where it can't be.
use Rattle.std.specs.Prelude.{◌≡◌, ◌≢◌, ◌⊎◌, ℕ, Bool, true, false, List, Option, Result, Ok, Err}
use Rattle.std.specs.Prelude.{if◌then◌else◌}
use Rattle.sqlite.specs.Held.{Held, state}
use Rattle.sqlite.specs.State.{State, HasCleanDisk}
use Rattle.sqlite.specs.Store.{Ghosts}
use Rattle.desk_model.specs.Desk.{Desk, empty_desk}
use Rattle.desk_model.specs.IsDesk.{IsDesk}
use Rattle.desk_model.specs.Known.{is_known}
use Rattle.settings_core.specs.declared.fault.SettingsFault.{SettingsFault}
use Rattle.settings_core.specs.declared.settings.Settings.{Settings}
use Rattle.settings_core.specs.Reading.{IsSettingsOf}
use Rattle.service_core.specs.Attaching.{BlamesBad, FailsOver, TellsKnown}
use Rattle.service_core.specs.declared.fault.AttachFault.{AttachFault}
use Rattle.service_core.specs.declared.fault.AttachFault.TheVariants.{NoMemory, Store, UnknownName}
use Rattle.store_core.specs.Due.{RepresentsWithDue}
use Rattle.store_core.specs.Migrating.{HoldsPart, LeavesOthers}
use Rattle.store_tables.specs.Calls.{AreLeft, KeepsConnection, LeavesTables, WasClean}
use Rattle.store_tables.specs.Contents.{Contents}
use Rattle.store_tables.specs.Making.{IsBlank, IsKnown}
use Rattle.store_tables.specs.Stands.{FirstStandsFor, HoldCommitted, Represents}
use Rattle.store_tables.specs.declared.fault.StoreFault.{StoreFault}
use Rattle.store_tables.specs.declared.fault.StoreFault.TheVariants.{Refused, WrongVersion}
use Rattle.stream_core.specs.Seen.{has_write_failed}
use Rattle.stream_core.specs.Written.{Prints}
use Rattle.stream_core.specs.declared.writer.CountedWriter.{CountedWriter}
use Rattle.desk_program.specs.FaultLines.{attach_fault_text, settings_fault_text, store_fault_text}
use Rattle.desk_program.specs.Input.{GivesSettings}

-- tables of the present version, or of the first, stand for the desk
abbrev pub RepresentsAnyVersion : Desk → State → Type 0
RepresentsAnyVersion desk s = Represents desk s ⊎ FirstStandsFor desk s

-- whatever desk the tables stood for they stand for still, in the present version, and keep its due
-- moments
abbrev pub ComesToStand : Settings → State → State → Type 0
ComesToStand settings old new =
    (desk : Desk) → IsDesk desk → RepresentsAnyVersion desk old → RepresentsWithDue settings desk new

-- whether the settings know each name of whatever desk the tables stood for
abbrev pub ToldKnown : Settings → State → State → Bool → Type 0
ToldKnown settings old new known =
    (desk : Desk) → IsDesk desk → RepresentsAnyVersion desk old → HasCleanDisk new
    → is_known settings desk ≡ known

-- ---- what is opened

-- settings that were given are attached to tables, which were made or brought on first
pub record AreOpened (given : Settings) (old : State) (settings : Settings) (new : State) : Type 0
  where
    pub same : settings ≡ given
    -- whatever desk the tables stood for they stand for still, and keep its due moments
    pub renewed : ComesToStand given old new
    -- where there was no table at all, they stand for the empty desk
    pub made : IsBlank old → RepresentsWithDue given empty_desk new
    -- the settings know each name of the desk that the tables stood for
    pub known : ToldKnown given old new true

pub record IsOpened (text : List ℕ) (old : State) (settings : Settings) (new : State) : Type 0 where
  -- the settings are those of the text
  pub stated : IsSettingsOf text settings
  -- whatever desk the tables stood for they stand for still, and keep its due moments
  pub renewed : ComesToStand settings old new
  -- where there was no table at all, they stand for the empty desk
  pub made : IsBlank old → RepresentsWithDue settings empty_desk new
  -- the settings know each name of the desk that the tables stood for
  pub known : ToldKnown settings old new true

-- ---- what is told where there is no desk

-- a fault of the store when the tables were to be made
pub record IsNotMade (old new : State) (fault : StoreFault) : Type 0 where
  -- what the tables held they hold still
  pub kept : LeavesOthers old new
  -- whatever tables there are, all are as they were
  pub spared : AreLeft old new
  -- those of version 1 stand for their desk still
  pub first : (desk : Desk) → IsDesk desk → FirstStandsFor desk old → FirstStandsFor desk new
  -- where there was no table there is none, and the store or memory refused it
  pub blank : IsBlank old → IsBlank new × (HasCleanDisk new → fault ≡ Refused)
  -- the version is told to be wrong only where it isn't a known one
  pub version : (c : Contents) → HoldsPart c old → HasCleanDisk new → fault ≡ WrongVersion
      → ¬ IsKnown c.version
  -- over values of a known version nothing can be wrong, but that the store or memory refused
  pub fails : (c : Contents) → IsKnown c.version → HoldsPart c old → HasCleanDisk new
      → fault ≡ Refused
  -- a disk that is clean afterwards was clean before
  pub honest : WasClean old new
  -- no fault of the disk is forgotten, and only one shuts what was open
  pub lasts : KeepsConnection old new

-- over tables that hold values, a fault of attaching is an unknown name, or the store or memory
-- refused it
abbrev pub IsFaultOverValues : AttachFault → Type 0
IsFaultOverValues fault = (fault ≡ UnknownName) ⊎ ((fault ≡ NoMemory) ⊎ (fault ≡ Store Refused))

-- a fault of attaching settings to tables
pub record FailsToAttach (settings : Settings) (old new : State) (fault : AttachFault) : Type 0
  where
    -- the tables are as they were, whatever rows they have
    pub kept : LeavesTables old new
    -- a disk that is clean afterwards was clean before
    pub honest : WasClean old new
    -- a name is told to be unknown only where the settings lack one of the desk
    pub unknown : fault ≡ UnknownName → TellsKnown settings old new false
    -- over tables that hold values nothing else can be wrong, but that the store or memory refused
    pub fails : FailsOver old new fault
    -- a row is blamed only where one is no value of its type
    pub blames : BlamesBad old new fault

-- the same of tables that were first made, where any were missing, and brought to the present
-- version
pub record IsNotAttached (settings : Settings) (old new : State) (fault : AttachFault) : Type 0
  where
    -- what tables of another version than 1 held they hold still
    pub kept : LeavesOthers old new
    -- those of version 1 stand for their desk in the present version
    pub first : (desk : Desk) → IsDesk desk → FirstStandsFor desk old → Represents desk new
    -- a disk that is clean afterwards was clean before
    pub honest : WasClean old new
    -- a name is told to be unknown only where the settings lack one of the desk
    pub unknown : fault ≡ UnknownName → ToldKnown settings old new false
    -- over tables that hold values nothing else can be wrong, but that the store or memory refused
    pub fails : (c : Contents) → c.version ≢ 1 → HoldCommitted c old → HasCleanDisk new
        → IsFaultOverValues fault
    -- and so over those of version 1 that stood for a desk
    pub fails_first : (desk : Desk) → IsDesk desk → FirstStandsFor desk old → HasCleanDisk new
        → IsFaultOverValues fault
    -- where there was no table at all, they stand for the empty desk
    pub made : IsBlank old → Represents empty_desk new
    -- the tables were of a known version
    pub version : (c : Contents) → HoldsPart c old → HasCleanDisk new → IsKnown c.version

-- The line that is printed and the status, and what is left of the tables: a fault of the settings
-- comes before one of the store, and that before one of attaching.
abbrev pub IsOpeningFault : {S : Type 0} → Ghosts S → Result Settings SettingsFault → Held S
    → Held S → List ℕ → ℕ → Type 0
IsOpeningFault g (Err fault) old new line status =
    (line ≡ settings_fault_text fault) × (status ≡ 3) × (new ≡ old)
IsOpeningFault g (Ok settings) old new line status =
    (((fault : StoreFault) × (line ≡ store_fault_text fault)
    × IsNotMade (state g old) (state g new) fault)
    ⊎ ((fault : AttachFault) × (line ≡ attach_fault_text fault)
    × IsNotAttached settings (state g old) (state g new) fault)) × (status ≡ 4)

-- a line was printed, and it ends with this status, or with 4 after a write that failed
abbrev pub EndsWith : {W : Type 0} → (W → Option (List ℕ)) → List ℕ → ℕ → CountedWriter W
    → CountedWriter W → ℕ → Type 0
EndsWith contents line status old new ended =
    Prints contents old new line × (ended ≡ (if has_write_failed new then 4 else status))

-- the fault of opening tables, of which these are given back
abbrev pub IsGivenBack : {S W : Type 0} → Ghosts S → (W → Option (List ℕ)) → List ℕ → Held S
    → Held S → CountedWriter W → CountedWriter W → ℕ → Type 0
IsGivenBack g contents text tables left old new ended =
    (given : Result Settings SettingsFault) × (line : List ℕ) × (status : ℕ)
    × GivesSettings text given × IsOpeningFault g given tables left line status
    × EndsWith contents line status old new ended

-- the same, whatever is left of them
abbrev pub IsNotOpened : {S W : Type 0} → Ghosts S → (W → Option (List ℕ)) → List ℕ → Held S
    → CountedWriter W → CountedWriter W → ℕ → Type 0
IsNotOpened {S} g contents text tables old new ended =
    (left : Held S) × IsGivenBack g contents text tables left old new ended
