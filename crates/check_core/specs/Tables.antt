-- What is wrong with the tables of a desk, as settings are attached to them.
use Rattle.std.specs.Prelude.{◌≡◌, ◌⊎◌, ℕ, Err, List, None, Option, Some, Result, false, true, ⊤}
use Rattle.std.specs.Prelude.{String, string_bytes}
use Rattle.std.specs.Option.{option_map}
use Rattle.sqlite.specs.State.{State, HasCleanDisk}
use Rattle.settings_core.specs.declared.settings.Settings.{Settings}
use Rattle.desk_model.specs.Desk.{Desk}
use Rattle.desk_model.specs.IsDesk.{IsDesk}
use Rattle.desk_model.specs.Known.{is_known}
use Rattle.store_tables.specs.Calls.{LeavesTables, Tells}
use Rattle.store_tables.specs.Readings.{MismatchMeansBadRow}
use Rattle.store_tables.specs.Stands.{Represents}
use Rattle.store_tables.specs.declared.fault.StoreFault.{StoreFault}
use Rattle.store_tables.specs.declared.fault.StoreFault.TheVariants.{Refused}
use Rattle.service_core.specs.Attaching.{LacksName, TellsKnown, AllRowsValid}
use Rattle.check_core.specs.Rows.{Unknown, first_unknown}
use Rattle.check_core.specs.Words.{unknown_text}
use Rattle.check_core.specs.declared.tables.Wrong.{Wrong}
use Rattle.check_core.specs.declared.tables.Wrong.TheVariants as wrong

-- each row that attaching tests is good, and the settings know each name of the tables
pub record NothingIsWrong (settings : Settings) (old new : State) : Type 0 where
  pub tested : AllRowsValid old new
  pub known : TellsKnown settings old new true

-- a fault of the store, which blames a row only where one is bad
abbrev pub BlamesOnly : State → State → StoreFault → Type 0
BlamesOnly old new fault = let r : Result ⊤ StoreFault = Err fault in MismatchMeansBadRow old new r

-- What is told of the desk that tables stand for is this name of it, in words, or nothing where it has
-- none. They stay as they are, and a fault blames a row only where one is bad.
pub record TellsUnknown {A : Type 0} (name : Desk → Option Unknown) (old new : State)
    (result : Result (Option (String A)) StoreFault) : Type 0 where
  pub told : Tells (λ desk told. option_map string_bytes told
      ≡ option_map unknown_text (name desk)) old new result
  pub kept : LeavesTables old new
  pub blames : MismatchMeansBadRow old new result

-- of the tables of a desk that has a name which the settings don't know, the first is told, in words
abbrev pub TellsName : Settings → State → State → List ℕ → Type 0
TellsName settings old new told =
    (desk : Desk) → IsDesk desk → Represents desk old → is_known settings desk ≡ false
    → HasCleanDisk new → option_map unknown_text (first_unknown settings desk) ≡ Some told

-- the settings lack a name of the tables, of which each row is good, and the first is told
pub record IsLacking (settings : Settings) (old new : State) (told : List ℕ) : Type 0 where
  pub lacks : LacksName settings old new
  pub first : TellsName settings old new told

-- nothing; a name that the settings lack, the first, where each row is good; or a row, or what the
-- store refuses
abbrev pub IsWrong : Settings → State → State → Option Wrong → Type 0
IsWrong settings old new None = NothingIsWrong settings old new
IsWrong settings old new (Some (wrong.Name told)) = IsLacking settings old new (string_bytes told)
IsWrong settings old new (Some (wrong.Rows fault)) = BlamesOnly old new fault

-- of the tables of a desk whose names the settings know nothing is wrong, unless the store or memory
-- refuses to read them
abbrev pub BeginsOver : Settings → State → State → Option Wrong → Type 0
BeginsOver settings old new found =
    (desk : Desk) → IsDesk desk → Represents desk old → is_known settings desk ≡ true
    → HasCleanDisk new → (found ≡ None) ⊎ (found ≡ Some (wrong.Rows Refused))
