-- What is told of tables, by what was read of them.
use Rattle.std.proofs.Common.{◌≡◌, false, inr, ap, ◌∙◌, sym}
use Rattle.std.proofs.Common.{ℕ, Err, List, Option, Result, Some}
use Rattle.std.specs.Prelude.{⊤}
use Rattle.sqlite.specs.State.{State, HasCleanDisk}
use Rattle.settings_core.specs.declared.settings.Settings.{Settings}
use Rattle.desk_model.specs.Desk.{Desk}
use Rattle.desk_model.specs.IsDesk.{IsDesk}
use Rattle.desk_model.specs.Known.{is_known}
use Rattle.store_tables.specs.Calls.{LeavesTables, Tells}
use Rattle.store_tables.specs.Readings.{MismatchMeansBadRow}
use Rattle.store_tables.specs.Stands.{Represents}
use Rattle.store_tables.specs.declared.fault.StoreFault.{StoreFault}
use Rattle.store_tables.specs.declared.fault.StoreFault.TheVariants.{Refused}
use Rattle.store_tables.specs.Contents.{contents_of}
use Rattle.store_tables.proofs.ReadOn.{blames_none}
use Rattle.store_tables.proofs.Spared.{stands_for}
use Rattle.service_core.specs.Attaching.{LacksName, TellsKnown, AllRowsValid}
use Rattle.check_core.specs.Tables.{BeginsOver, BlamesOnly, IsLacking, TellsName}
use Rattle.check_core.specs.declared.tables.Wrong.{Wrong}
use Rattle.check_core.specs.declared.tables.Wrong.TheVariants as wrong

-- what was told of tables is told of them still, where they were only read on
pub lacks_then : {settings : Settings} {a b c : State} → LeavesTables b c → AllRowsValid a b
    → TellsKnown settings a b false → LacksName settings a c
lacks_then later tested known = record {
  tested = λ there clean. tested there (later.clean clean);
  unknown = λ desk is stands clean. known desk is stands (later.clean clean);
}

-- a desk whose names are known has none that isn't
pub not_lacking : {settings : Settings} {old new : State} (found : Option Wrong)
    → LacksName settings old new → BeginsOver settings old new found
not_lacking found lacks desk is stands known clean =
    absurd (let no = sym known ∙ lacks.unknown desk is stands clean in cc)

-- where the settings lack a name, the first is told
pub lacking : (s : Settings) {a b c : State} {told : List ℕ} → LeavesTables a b → LeavesTables b c
    → AllRowsValid a b → TellsKnown s a b false → TellsName s b c told → IsLacking s a c told
lacking s first later tested known name = record {
  lacks = lacks_then later tested known;
  first = λ desk is stand lacks clean. name desk is (stands_for first desk stand) lacks clean;
}

-- over the tables of a desk only the store or memory refuses
pub refused_only : (settings : Settings) {old new : State} (fault : StoreFault)
    → LeavesTables old new → BlamesOnly old new fault
    → BeginsOver settings old new (Some (wrong.Rows fault))
refused_only settings fault spares blames desk is stands known clean =
    let r : Result ⊤ StoreFault = Err fault in
    inr (ap (λ (e : StoreFault). Some (wrong.Rows e))
    (blames_none {r = r} spares.clean blames (contents_of stands.0 desk) stands.1 clean))

-- a fault blames the same, whatever was asked
pub told_only : {X : Type 0} {old new : State} (fault : StoreFault)
    → MismatchMeansBadRow {X = X} old new (Err fault) → BlamesOnly old new fault
told_only fault blames = record { known = blames.known; mismatch = blames.mismatch }
