-- What is opened, and what is left where it can't be, from what its parts are.
use Rattle.std.proofs.Common.{◌≡◌, ◌≢◌, inl, inr, List, ℕ, Result, IfOk}
use Rattle.std.proofs.Common.{Option, arith, subst, sym}
use Rattle.std.proofs.lemmas.Result.{IfOk-weaker}
use Rattle.sqlite.specs.State.{State, HasCleanDisk}
use Rattle.desk_model.specs.Desk.{Desk, empty_desk}
use Rattle.desk_model.specs.IsDesk.{IsDesk}
use Rattle.desk_model.specs.declared.rows.RequestRow.{RequestRow}
use Rattle.settings_core.specs.Reading.{IsSettingsOf}
use Rattle.settings_core.specs.declared.settings.Settings.{Settings}
use Rattle.service_core.specs.declared.fault.AttachFault.{AttachFault}
use Rattle.store_core.specs.Migrating.{HoldsPart, LeavesOthers}
use Rattle.store_tables.proofs.Spared.{stands, stands_for}
use Rattle.store_tables.specs.Calls.{WasClean}
use Rattle.store_tables.specs.Contents.{Contents, contents_of, first_contents_of}
use Rattle.store_tables.specs.Making.{IsBlank, IsKnown}
use Rattle.store_tables.specs.Stands.{FirstHoldCommitted, HoldCommitted, Represents}
use Rattle.desk_program.specs.Opening.{AreOpened, FailsToAttach, IsNotAttached, IsOpened}
use Rattle.desk_program.specs.Opening.{RepresentsAnyVersion}

pub opened : {D E : Type 0} (r : Result D E) (text : List ℕ) (s : Settings) (old : State)
    (attached : D → Settings) (tables : D → State) → IsSettingsOf text s
    → IfOk r (λ d. AreOpened s old (attached d) (tables d))
    → IfOk r (λ d. IsOpened text old (attached d) (tables d))
opened r text s old attached tables stated opens =
    IfOk-weaker r _ _
    (λ d is.
    subst (λ (t : Settings). IsOpened text old t (tables d)) (sym is.same)
    (record { stated = stated; renewed = is.renewed; made = is.made; known = is.known }))
    opens

-- the first version isn't the present one
two : ◌≢◌ {A = ℕ} 2 1
two e = absurd (omega arith)

-- tables that are left stand for the desk that they stood for
pub left_for : (old new : State) → LeavesOthers old new → (desk : Desk) → Represents desk old
    → Represents desk new
left_for old new kept desk stand = (stand.0, kept (contents_of stand.0 desk) two stand.1)

-- tables of version 1 are brought on
abbrev pub BringsOn : State → State → Type 0
BringsOn old mid =
    (desk : Desk) → IsDesk desk → (due : RequestRow → Option ℕ)
    → FirstHoldCommitted (first_contents_of due desk) old → HoldCommitted (contents_of due desk) mid

-- and so they all stand for their desk when they were made
pub brought : (old mid : State) → LeavesOthers old mid → BringsOn old mid → (desk : Desk)
    → IsDesk desk → RepresentsAnyVersion desk old → Represents desk mid
brought old mid kept on desk formed (inl stand) = left_for old mid kept desk stand
brought old mid kept on desk formed (inr first) = (first.0, on desk formed first.0 first.1)

-- the tables were made, and then the settings weren't attached
pub made_not_attached : (s : Settings) (old mid new : State) (fault : AttachFault)
    → LeavesOthers old mid → BringsOn old mid → WasClean old mid
    → (IsBlank old → Represents empty_desk mid)
    → ((c : Contents) → HoldsPart c old → HasCleanDisk mid → IsKnown c.version)
    → FailsToAttach s mid new fault → IsNotAttached s old new fault
made_not_attached s old mid new fault kept on honest made version fails =
    record {
      kept = λ c other stand. stands fails.kept c (kept c other stand);
      first =
          λ desk formed stand.
          stands_for fails.kept desk (brought old mid kept on desk formed (inr stand));
      honest = λ clean. honest (fails.honest clean);
      unknown =
          λ e desk formed stand clean.
          fails.unknown e desk formed (brought old mid kept on desk formed stand) clean;
      fails = λ c other stand clean. fails.fails c (kept c other stand) clean;
      fails_first =
          λ desk formed stand clean.
          let it = brought old mid kept on desk formed (inr stand) in
          fails.fails (contents_of it.0 desk) it.1 clean;
      made = λ blank. stands_for fails.kept empty_desk (made blank);
      version = λ c stand clean. version c stand (fails.honest clean);
    }
