-- One command over tables: where it leads from the desk with which the tables begin.
use Rattle.std.specs.Prelude.{⊤}
use Rattle.std.proofs.Common.{◌≡◌, ◌⊎◌, ◌∙◌, ◌++◌, [], inl, inr, ℕ, Bool, true, false, List}
use Rattle.std.proofs.Common.{Result, Ok, Err, ap, refl, subst, sym}
use Rattle.sqlite.specs.Held.{Held}
use Rattle.sqlite.specs.State.{State, HasCleanDisk}
use Rattle.sqlite.specs.Store.{Ghosts}
use Rattle.settings_core.specs.declared.fault.SettingsFault.{SettingsFault}
use Rattle.settings_core.specs.declared.settings.Settings.{Settings}
use Rattle.settings_core.specs.Reading.{IsSettingsOf}
use Rattle.settings_core.proofs.Sound.{sound}
use Rattle.desk_core.proofs.KnownLaw.{known_law}
use Rattle.desk_model.specs.declared.command.Command.{Command}
use Rattle.desk_model.specs.declared.refusal.Refusal.{Refusal}
use Rattle.desk_model.specs.declared.refusal.Refusal.TheVariants.{Unavailable}
use Rattle.desk_model.specs.Desk.{Desk}
use Rattle.desk_model.specs.IsDesk.{IsDesk}
use Rattle.desk_model.specs.Known.{is_known}
use Rattle.desk_model.specs.Step.{Ask, Outcome, Steps}
use Rattle.desk_reports.specs.declared.fault.StreamFault.{StreamFault}
use Rattle.desk_reports.specs.declared.fault.StreamFault.TheVariants.{Refused, Write}
use Rattle.desk_texts.specs.Texts.{outcome_text, refusal_text}
use Rattle.service_core.specs.Streaming.{IsStreamed, is_list}
use Rattle.service_core.specs.TableSteps.{OverTables, StepOverTables, ask_by}
use Rattle.store_tables.proofs.Spared.{stands}
use Rattle.store_tables.specs.Calls.{LeavesTables, WasClean}
use Rattle.store_tables.specs.Contents.{contents_of}
use Rattle.store_core.specs.Due.{RepresentsWithDue, due_of_row}
use Rattle.desk_program.specs.FaultLines.{unavailable_text}
use Rattle.desk_program.specs.One.{IsDone, IsGivenOutput, TakesStep, TellsStep}
use Rattle.desk_program.specs.One.{status_of}
use Rattle.desk_program.specs.Opening.{IsOpened, IsOpeningFault}
use Rattle.desk_program.proofs.LedLines.{knows_empty}

-- a command that was done
pub stepped : (s : Settings) (at : ℕ) (caller : List ℕ) (command : Command) (outcome : Outcome)
    (failed : Bool) (old new : State) (text : List ℕ) (status : ℕ) → text ≡ outcome_text outcome
    → status ≡ status_of outcome → StepOverTables s (ask_by at caller command) outcome old new
    → OverTables s (TakesStep s (ask_by at caller command) failed text status) old new
stepped s at caller command outcome failed old new text status told ends steps desk formed stands clean =
    let done = steps desk formed stands clean in
    (done.0, (inl (outcome, done.1.0.step, told, ends), done.1.1), done.2)

-- settings that a text states know each name of the desk to which a step leads
known_by_step : (s : Settings) (text : List ℕ) (ask : Ask) (old new : Desk) (outcome : Outcome)
    → IsSettingsOf text s → IsDesk old → is_known s old ≡ true
    → Steps s ask.at ask.caller ask.command old outcome new → is_known s new ≡ true
known_by_step s text ask old new outcome stated formed known (inl same) =
    subst (λ (d : Desk). is_known s d ≡ true) (sym same.1) known
known_by_step s text ask old new outcome stated formed known (inr done) =
    subst (λ (d : Desk). is_known s d ≡ true) (sym done.1)
    (known_law s ask.at ask.caller ask.command old formed (sound text s stated) known)

-- and so of the desk to which a command leads
known_after : (s : Settings) (text : List ℕ) (ask : Ask) (failed : Bool) (line : List ℕ)
    (status : ℕ) (old new : Desk) → IsSettingsOf text s → IsDesk old → is_known s old ≡ true
    → TakesStep s ask failed line status old new → is_known s new ≡ true
known_after s text ask failed line status old new stated formed known takes =
    elim takes [
      | inl told ↦ known_by_step s text ask old new told.0 stated formed known told.1
      | inr cut ↦ known_by_step s text ask old new (Ok cut.1) stated formed known cut.2
    ]

-- the tables were opened, and the command was done
pub done_once_opened : (s : Settings) (text : List ℕ) (ask : Ask) (failed : Bool)
    (old mid new : State) (line : List ℕ) (status : ℕ) → IsOpened text old s mid
    → WasClean mid new → OverTables s (TakesStep s ask failed line status) mid new
    → IsDone s ask failed old new line status
done_once_opened s text ask failed old mid new line status is honest leads desk formed (inl stand)
    clean =
    let known = is.known desk formed stand (honest clean) in
    let led = leads desk formed (is.renewed desk formed stand) clean in (
      led.0,
      known,
      led.1,
      led.2,
      known_after s text ask failed line status desk led.0 is.stated formed known led.1.0,
    )
done_once_opened s text ask failed old mid new line status is honest leads desk formed (inr none)
    clean =
    let begins : RepresentsWithDue s desk mid =
    subst (λ (d : Desk). RepresentsWithDue s d mid) (sym none.1) (is.made none.0) in
    let known : is_known s desk ≡ true =
    subst (λ (d : Desk). is_known s d ≡ true) (sym none.1) (knows_empty s) in
    let led = leads desk formed begins clean in (
      led.0,
      known,
      led.1,
      led.2,
      known_after s text ask failed line status desk led.0 is.stated formed known led.1.0,
    )

-- the tables weren't opened, and the fault is told
pub not_opened : {S : Type 0} (g : Ghosts S) (given : Result Settings SettingsFault) (ask : Ask)
    (failed : Bool) (old new : Held S) (line : List ℕ) (status : ℕ)
    → IsOpeningFault g given old new line status
    → IsGivenOutput g given ask failed old new line status
not_opened g (Err fault) ask failed old new line status told = told
not_opened g (Ok settings) ask failed old new line status told = inl told

-- ---- a list

module _ (s : Settings) (at : ℕ) (caller : List ℕ) (command : Command) (old new : State)
    (kept : LeavesTables old new) (listed : is_list command ≡ true) where
  abbrev ask : Ask
  ask = ask_by at caller command

  abbrev Came : Result ⊤ StreamFault → List ℕ → Type 0
  Came result printed =
      (desk : Desk) → IsDesk desk → RepresentsWithDue s desk old → HasCleanDisk new
      → IsStreamed s ask desk result printed

  still : (desk : Desk) → RepresentsWithDue s desk old → RepresentsWithDue s desk new
  still desk stand = stands kept (contents_of (due_of_row s desk) desk) stand

  -- it was written whole
  pub list_printed : (failed : Bool) (printed : List ℕ) → Came (Ok tt) printed
      → OverTables s (TakesStep s ask failed printed 0) old new
  list_printed failed printed came desk formed stand clean =
      let it = came desk formed stand clean in
      (desk, (inl (Ok it.0, it.1.step, it.2, refl), formed), still desk stand)

  -- a write failed in it
  pub list_failed : (failed : Bool) (printed : List ℕ) (status : ℕ) → failed ≡ true
      → Came (Err Write) printed → OverTables s (TakesStep s ask failed printed status) old new
  list_failed failed printed status is came desk formed stand clean =
      let it = came desk formed stand clean in (
        desk,
        (inr (listed, it.0, it.1.step, printed, it.2, inl (is, refl), refl), formed),
        still desk stand,
      )

  -- it was refused, maybe in its middle, and that is told, or that there was no memory to tell it
  pub list_refused : (failed : Bool) (printed : List ℕ) (refusal told : Refusal)
      → (told ≡ refusal) ⊎ (told ≡ Unavailable) → Came (Err (Refused refusal)) printed
      → OverTables s (TakesStep s ask failed (printed ++ refusal_text told) 1) old new
  list_refused failed printed refusal told which came desk formed stand clean = (
    desk,
    (
      elim (came desk formed stand clean) [
        | inl none ↦ inl (nothing which none.0.step none.1)
        | inr cut ↦
            let it = cut.1 in
            let same : told ≡ Unavailable = elim which [
              | inl as_it_is ↦ as_it_is ∙ cut.0
              | inr unavailable ↦ unavailable
            ] in
            inr (
              listed,
              it.0,
              it.1.step,
              printed,
              it.2,
              inr (ap (λ r. printed ++ refusal_text r) same, refl),
              refl,
            )
      ],
      formed,
    ),
    still desk stand,
  )
    where
      nothing : (told ≡ refusal) ⊎ (told ≡ Unavailable)
          → Steps s at caller command desk (Err refusal) desk → printed ≡ []
          → TellsStep s ask (printed ++ refusal_text told) 1 desk desk
      nothing (inl same) step none = (
        Err refusal,
        step,
        ap (λ (l : List ℕ). l ++ refusal_text told) none ∙ ap refusal_text same,
        refl,
      )
      nothing (inr same) step none = (
        Err Unavailable,
        inl (refl, refl),
        ap (λ (l : List ℕ). l ++ refusal_text told) none ∙ ap refusal_text same,
        refl,
      )
