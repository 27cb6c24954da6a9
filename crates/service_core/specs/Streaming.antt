-- A list that is written row by row: what of its text was written.
use Rattle.std.specs.Prelude.{◌≡◌, ◌≢◌, ◌⊎◌, ◌++◌, ℕ, ⊤, [], Bool, true, false, List, None, Some}
use Rattle.std.specs.Prelude.{Err, Ok, Option, Result}
use Rattle.sqlite.specs.State.{State, HasCleanDisk}
use Rattle.settings_core.specs.declared.settings.Settings.{Settings}
use Rattle.desk_model.specs.Desk.{Desk}
use Rattle.desk_model.specs.IsDesk.{IsDesk}
use Rattle.desk_model.specs.Step.{Ask, guard}
use Rattle.desk_model.specs.declared.answer.Answer.{Answer}
use Rattle.desk_model.specs.declared.command.Command.{Command}
use Rattle.desk_model.specs.declared.command.Command.TheVariants as commands
use Rattle.desk_model.specs.declared.refusal.Refusal.{Refusal}
use Rattle.desk_model.specs.declared.refusal.Refusal.TheVariants.{Unavailable}
use Rattle.desk_reports.specs.declared.fault.StreamFault.{StreamFault}
use Rattle.desk_reports.specs.declared.fault.StreamFault.TheVariants.{Refused, Write}
use Rattle.desk_texts.specs.Texts.{answer_text}
use Rattle.store_core.specs.Due.{RepresentsWithDue}
use Rattle.store_tables.specs.Calls.{LeavesTables}
use Rattle.stream_core.specs.Seen.{has_write_failed}
use Rattle.stream_core.specs.Written.{Prints}
use Rattle.stream_core.specs.declared.writer.CountedWriter.{CountedWriter}
use Rattle.service_core.specs.TableSteps.{IsStep}

-- one of the commands whose text is written row by row
abbrev pub is_list : Command → Bool
is_list (commands.List queue) = true
is_list commands.Overdue = true
is_list other = false

-- the command was answered, the desk stays, and the text of the answer is so
abbrev pub IsAnswered : Settings → Ask → Desk → (List ℕ → Type 0) → Type 0
IsAnswered settings ask desk IsText =
    (answer : Answer) × IsStep settings ask desk (Ok answer) desk × IsText (answer_text answer)

-- a part from the front of a text
abbrev pub IsBeginningOf : List ℕ → List ℕ → Type 0
IsBeginningOf part text = (rest : List ℕ) × (text ≡ part ++ rest)

-- What came of a stream that printed this: the text of the answer; or a part from its front, where
-- a write failed, or memory or the store refused; or nothing, where the command was refused.
abbrev pub IsStreamed : Settings → Ask → Desk → Result ⊤ StreamFault → List ℕ → Type 0
IsStreamed settings ask desk (Ok done) printed =
    IsAnswered settings ask desk (λ text. printed ≡ text)
IsStreamed settings ask desk (Err Write) printed =
    IsAnswered settings ask desk (IsBeginningOf printed)
IsStreamed settings ask desk (Err (Refused refusal)) printed =
    (IsStep settings ask desk (Err refusal) desk × (printed ≡ []))
    ⊎ ((refusal ≡ Unavailable) × IsAnswered settings ask desk (IsBeginningOf printed))

-- something was printed, and so it is of whatever desk the tables stand for
abbrev pub StreamsOn : Settings → Ask → State → State → Result ⊤ StreamFault → (List ℕ → Type 0)
    → Type 0
StreamsOn settings ask old new result Printed =
    (printed : List ℕ) × Printed printed
    × ((desk : Desk) → IsDesk desk → RepresentsWithDue settings desk old → HasCleanDisk new
    → IsStreamed settings ask desk result printed)

-- whether a write failed
abbrev pub is_write : Result ⊤ StreamFault → Bool
is_write (Ok done) = false
is_write (Err Write) = true
is_write (Err (Refused refusal)) = false

-- What a stream leaves: what was written is so of the tables, which stay as they were, and the
-- fault tells whether a write failed.
pub record StreamsSafely {W : Type 0}
    (Streams : State → State → Result ⊤ StreamFault → (List ℕ → Type 0) → Type 0)
    (contents : W → Option (List ℕ)) (old new : State) (before after : CountedWriter W)
    (result : Result ⊤ StreamFault) : Type 0 where
  pub streamed : Streams old new result (Prints contents before after)
  pub failed : has_write_failed after ≡ is_write result
  pub kept : LeavesTables old new

-- ---- once it is decided

-- the command isn't refused on the desk, or memory or the store refused, or it is refused by that
abbrev pub IsAdmitted : Settings → Ask → Desk → Result ⊤ Refusal → Type 0
IsAdmitted settings ask desk (Ok done) =
    guard settings ask.at ask.caller ask.command desk ≡ None
IsAdmitted settings ask desk (Err refusal) =
    refusal ≢ Unavailable
    → guard settings ask.at ask.caller ask.command desk ≡ Some refusal

-- so it is of whatever desk the tables stand for
abbrev pub Admits : Settings → Ask → Result ⊤ Refusal → State → State → Type 0
Admits settings ask result old new =
    (desk : Desk) → IsDesk desk → RepresentsWithDue settings desk old → HasCleanDisk new
    → IsAdmitted settings ask desk result

-- the same of whatever desk they stand for on which the command isn't refused
abbrev pub StreamsAdmitted : Settings → Ask → State → State → Result ⊤ StreamFault
    → (List ℕ → Type 0) → Type 0
StreamsAdmitted settings ask old new result Printed =
    (printed : List ℕ) × Printed printed
    × ((desk : Desk) → IsDesk desk → guard settings ask.at ask.caller ask.command desk ≡ None
    → RepresentsWithDue settings desk old → HasCleanDisk new
    → IsStreamed settings ask desk result printed)
