-- Lines over tables: where the desk is led by a line.
use Rattle.std.proofs.Common.{◌≡◌, ◌⊎◌, inl, inr, ℕ, true, false, List, Result, Ok, Err, IfOk}
use Rattle.std.proofs.Common.{OnErr, ap, refl}
use Rattle.sqlite.specs.State.{State, HasCleanDisk}
use Rattle.settings_core.specs.declared.settings.Settings.{Settings}
use Rattle.desk_model.specs.declared.command.Command.{Command}
use Rattle.store_tables.specs.declared.fault.StoreFault.TheVariants.{Refused}
use Rattle.store_tables.specs.Contents.{contents_of}
use Rattle.store_tables.specs.Stands.{Represents}
use Rattle.service_core.specs.Attaching.{FailsOver, TellsKnown}
use Rattle.desk_model.specs.Desk.{Desk, empty_desk}
use Rattle.desk_model.specs.IsDesk.{IsDesk}
use Rattle.desk_model.specs.Known.{is_known}
use Rattle.service_core.specs.TableSteps.{StepOverTables, ask_by}
use Rattle.desk_model.specs.Step.{Outcome}
use Rattle.desk_texts.specs.Texts.{outcome_text}
use Rattle.service_core.specs.declared.fault.AttachFault.{AttachFault}
use Rattle.service_core.specs.declared.fault.AttachFault.TheVariants.{NoMemory, Store, UnknownName}
use Rattle.desk_program.specs.FaultLines.{attach_fault_text, unavailable_text}
use Rattle.desk_program.specs.Script.{IsCommandsOutput, LineLeads, LinePrints, is_passed_over}
use Rattle.desk_program.specs.Script.{line_of}
use Rattle.desk_program.specs.declared.line.Line.{Line}
use Rattle.desk_program.specs.declared.line.Line.TheVariants.{Asked}
use Rattle.desk_program.proofs.PrintedLines.{unavailable_prints}

-- ---- results

pub if_ok : {A E : Type 0} (r : Result A E) (P Q : A → Type 0) → IfOk r P
    → ((a : A) → P a → Q a) → IfOk r Q
if_ok (Ok a) P Q h then = then a h
if_ok (Err e) P Q h then = tt

-- ---- lines

-- a line that leaves whatever desk as it was, over tables that stay
pub led_nowhere : (s : Settings) (line : Line) (text : List ℕ) (tables : State)
    → ((desk : Desk) → LinePrints s line desk text desk) → LineLeads s line text tables tables
led_nowhere s line text tables prints desk formed stands clean =
    (desk, (prints desk, formed), stands)

-- a line that is out of memory
pub left_out : (s : Settings) (line : List ℕ) (tables : State) → is_passed_over line ≡ false
    → LineLeads s (line_of line) unavailable_text tables tables
left_out s line tables asked =
    led_nowhere s (line_of line) unavailable_text tables
    (λ desk. unavailable_prints s line desk asked)

-- a command that was done
pub led_by_step : (s : Settings) (at : ℕ) (caller : List ℕ) (command : Command)
    (outcome : Outcome) (old new : State) (text : List ℕ) → text ≡ outcome_text outcome
    → StepOverTables s (ask_by at caller command) outcome old new
    → LineLeads s (Asked at caller command) text old new
led_by_step s at caller command outcome old new text told steps desk formed stands clean =
    let done = steps desk formed stands clean in
    (done.0, ((outcome, done.1.0.step, told), done.1.1), done.2)

-- ---- the beginning

pub empty_is_desk : IsDesk empty_desk
empty_is_desk =
    record {
      queues = refl;
      named = refl;
      requests = refl;
      persons = refl;
      entries = refl;
      filed_in = refl;
      links = refl;
      ends = refl;
    }

-- an empty desk has no name that settings could lack
pub knows_empty : (s : Settings) → is_known s empty_desk ≡ true
unfolding is_known
knows_empty s = refl

-- where the settings aren't attached, memory or the store refused it
refused_alone : (s : Settings) (fault : AttachFault) (old new : State)
    → (fault ≡ UnknownName → TellsKnown s old new false) → FailsOver old new fault
    → Represents empty_desk old → HasCleanDisk new → (fault ≡ NoMemory) ⊎ (fault ≡ Store Refused)
refused_alone s fault old new unknown fails empty clean =
    elim (fails (contents_of empty.0 empty_desk) empty.1 clean) [
      | inl e ↦ absurd (let no = unknown e empty_desk empty_is_desk empty clean in
          let yes = knows_empty s in cc)
      | inr refused ↦ refused
    ]

-- and that is what is printed
pub not_attached : (s : Settings) (commands : List ℕ) (fault : AttachFault) (old new : State)
    → (fault ≡ UnknownName → TellsKnown s old new false) → FailsOver old new fault
    → Represents empty_desk old → HasCleanDisk new
    → IsCommandsOutput (Ok s) commands (attach_fault_text fault) 4
not_attached s commands fault old new unknown fails empty clean =
    elim (refused_alone s fault old new unknown fails empty clean) [
      | inl memory ↦ inr (inr (inl (ap attach_fault_text memory)), refl)
      | inr store ↦ inr (inr (inr (ap attach_fault_text store)), refl)
    ]
