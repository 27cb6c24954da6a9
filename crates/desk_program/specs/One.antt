-- One command on the tables of a store.
use Rattle.std.specs.Prelude.{◌≡◌, ◌⊎◌, ◌++◌, ℕ, Bool, true, List, Option, Some, None, Result}
use Rattle.std.specs.Prelude.{Ok, Err}
use Rattle.std.specs.Prelude.{if◌then◌else◌}
use Rattle.sqlite.specs.Held.{Held, state}
use Rattle.sqlite.specs.State.{State, HasCleanDisk}
use Rattle.sqlite.specs.Store.{Ghosts}
use Rattle.settings_core.specs.declared.fault.SettingsFault.{SettingsFault}
use Rattle.settings_core.specs.declared.settings.Settings.{Settings}
use Rattle.desk_model.specs.declared.answer.Answer.{Answer}
use Rattle.desk_model.specs.declared.command.Command.{Command}
use Rattle.desk_model.specs.Desk.{Desk, empty_desk}
use Rattle.desk_model.specs.IsDesk.{IsDesk}
use Rattle.desk_model.specs.Known.{is_known}
use Rattle.desk_model.specs.Step.{Ask, Outcome, Steps}
use Rattle.desk_texts.specs.Texts.{answer_text, outcome_text}
use Rattle.desk_words.specs.Spelling.{command_of}
use Rattle.service_core.specs.Streaming.{IsBeginningOf, is_list}
use Rattle.service_core.specs.TableSteps.{ask_by}
use Rattle.store_core.specs.Due.{RepresentsWithDue}
use Rattle.store_tables.specs.Making.{IsBlank}
use Rattle.stream_core.specs.Seen.{has_write_failed}
use Rattle.stream_core.specs.Written.{Prints}
use Rattle.stream_core.specs.declared.writer.CountedWriter.{CountedWriter}
use Rattle.desk_program.specs.FaultLines.{unavailable_text}
use Rattle.desk_program.specs.Input.{GivesSettings}
use Rattle.desk_program.specs.Opening.{IsOpeningFault, RepresentsAnyVersion}
use Rattle.desk_program.specs.Script.{bad_words_text}

-- what is asked: the text of the settings, a moment, a caller, and the words of a command
pub record Asked : Type 0 where
  pub settings : List ℕ
  pub at : ℕ
  pub caller : List ℕ
  pub words : List (List ℕ)

abbrev pub asked_by : List ℕ → ℕ → List ℕ → List (List ℕ) → Asked
asked_by settings at caller words =
    record { settings = settings; at = at; caller = caller; words = words }

-- ---- the step

-- the status of what came of a command: 0 for an answer, 1 for a refusal
abbrev pub status_of : Outcome → ℕ
status_of (Ok answer) = 0
status_of (Err refusal) = 1

-- what comes of a command, its text and the status
abbrev pub TellsStep : Settings → Ask → List ℕ → ℕ → Desk → Desk → Type 0
TellsStep settings ask line status old new =
    (outcome : Outcome) × Steps settings ask.at ask.caller ask.command old outcome new
    × (line ≡ outcome_text outcome) × (status ≡ status_of outcome)

-- A list was cut short: a part from the front of the answer's text, in which a write failed; or
-- that and the line that memory or the store refused, with the status of a refusal. The desk stays.
abbrev pub IsCutShort : Settings → Ask → Bool → List ℕ → ℕ → Desk → Desk → Type 0
IsCutShort settings ask failed line status old new =
    (is_list ask.command ≡ true)
    × (answer : Answer) × Steps settings ask.at ask.caller ask.command old (Ok answer) new
    × (part : List ℕ) × IsBeginningOf part (answer_text answer)
    × (((failed ≡ true) × (line ≡ part))
    ⊎ ((line ≡ part ++ unavailable_text) × (status ≡ 1))) × (new ≡ old)

-- one step, and what is printed of it, where a write failed or not
abbrev pub TakesStep : Settings → Ask → Bool → List ℕ → ℕ → Desk → Desk → Type 0
TakesStep settings ask failed line status old new =
    TellsStep settings ask line status old new ⊎ IsCutShort settings ask failed line status old new

-- the desk with which the tables begin: the one that they stand for, in the present version or the
-- first, or the empty one where there is no table at all
abbrev pub BeginsWith : Desk → State → Type 0
BeginsWith desk tables = RepresentsAnyVersion desk tables ⊎ (IsBlank tables × (desk ≡ empty_desk))

-- The command was done, and a write of its text failed or not: whatever desk the tables begin with,
-- the settings know its names, and the tables stand afterwards for the desk to which one step leads,
-- with its due moments. That desk is well formed, and the settings know its names too.
abbrev pub IsDone : Settings → Ask → Bool → State → State → List ℕ → ℕ → Type 0
IsDone settings ask failed old new line status =
    (desk : Desk) → IsDesk desk → BeginsWith desk old → HasCleanDisk new
    → (after : Desk) × (is_known settings desk ≡ true)
    × (TakesStep settings ask failed line status desk after × IsDesk after)
    × RepresentsWithDue settings after new × (is_known settings after ≡ true)

-- ---- what is printed, and the status

-- the settings were read and the desk was opened, or the first fault of that is told
abbrev pub IsGivenOutput : {S : Type 0} → Ghosts S → Result Settings SettingsFault → Ask → Bool
    → Held S → Held S → List ℕ → ℕ → Type 0
IsGivenOutput g (Err fault) ask failed old new line status =
    IsOpeningFault g (Err fault) old new line status
IsGivenOutput g (Ok settings) ask failed old new line status =
    IsOpeningFault g (Ok settings) old new line status
    ⊎ IsDone settings ask failed (state g old) (state g new) line status

-- no command, and the tables stay; or that command with the settings of a text
abbrev pub IsCommandOutput : {S : Type 0} → Ghosts S → List ℕ → ℕ → List ℕ → Option Command → Bool
    → Held S → Held S → List ℕ → ℕ → Type 0
IsCommandOutput g settings at caller None failed old new line status =
    (line ≡ bad_words_text) × (status ≡ 2) × (new ≡ old)
IsCommandOutput g settings at caller (Some command) failed old new line status =
    (given : Result Settings SettingsFault) × GivesSettings settings given
    × IsGivenOutput g given (ask_by at caller command) failed old new line status

-- there was no memory to read the words, and the tables stay
abbrev pub IsUnread : {S : Type 0} → Held S → Held S → List ℕ → ℕ → Type 0
IsUnread old new line status = (line ≡ unavailable_text) × (status ≡ 1) × (new ≡ old)

abbrev pub IsOneOutput : {S : Type 0} → Ghosts S → Asked → Bool → Held S → Held S → List ℕ → ℕ
    → Type 0
IsOneOutput g asked failed old new line status =
    IsUnread old new line status
    ⊎ IsCommandOutput g asked.settings asked.at asked.caller (command_of asked.words) failed old new
    line status

-- One command was run on the tables of a connection, and its text was printed.
pub record RunsCommand {S W : Type 0} (g : Ghosts S) (contents : W → Option (List ℕ)) (asked : Asked)
    (old new : Held S) (before after : CountedWriter W) (ended : ℕ) : Type 0 where
  -- the text of the answer, of the refusal or of the fault, or of a list that was cut short
  pub text : List ℕ
  -- the status that goes with it
  pub status : ℕ
  -- they are those of what is asked, and so are the tables afterwards
  pub output : IsOneOutput g asked (has_write_failed after) old new text status
  -- the text was printed, whole or where a write failed a part from its front
  pub printed : Prints contents before after text
  -- it ends with that status, or with 4 after a failed write
  pub told : ended ≡ (if has_write_failed after then 4 else status)
