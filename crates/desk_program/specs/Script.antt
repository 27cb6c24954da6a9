-- What a script prints, and the status that it ends with.
use Rattle.std.specs.Prelude.{◌≡◌, ◌≤◌, ℕ, Bool, true, false, ◌==◌, List, [], ◌∷◌, ◌++◌, length}
use Rattle.std.specs.Prelude.{◌⊎◌}
use Rattle.std.specs.Prelude.{Option, Some, None, IfSome, Result, Ok, Err, codes, if◌then◌else◌}
use Rattle.std.specs.Str.Lines.{lines}
use Rattle.sqlite.specs.Held.{Held, state}
use Rattle.sqlite.specs.State.{State, HasCleanDisk}
use Rattle.sqlite.specs.Store.{Ghosts}
use Rattle.settings_core.specs.declared.fault.SettingsFault.{SettingsFault}
use Rattle.settings_core.specs.declared.settings.Settings.{Settings}
use Rattle.desk_model.specs.declared.command.Command.{Command}
use Rattle.store_tables.specs.declared.fault.StoreFault.TheVariants.{Refused}
use Rattle.desk_model.specs.Desk.{Desk, empty_desk}
use Rattle.service_core.specs.TableSteps.{OverTables}
use Rattle.desk_model.specs.Step.{Ask, Outcome, Runs, Steps}
use Rattle.desk_texts.specs.Texts.{outcome_text}
use Rattle.service_core.specs.declared.fault.AttachFault.TheVariants.{NoMemory, Store}
use Rattle.desk_words.specs.Number.{number_of}
use Rattle.desk_words.specs.Spelling.{command_of}
use Rattle.desk_words.specs.Words.{words_of}
use Rattle.desk_program.specs.FaultLines.{attach_fault_text, input_fault_text}
use Rattle.desk_program.specs.FaultLines.{settings_fault_text, store_fault_text, unavailable_text}
use Rattle.desk_program.specs.Input.{GivesSettings, IsScript, Script}
use Rattle.stream_core.specs.Seen.{has_write_failed, left_in}
use Rattle.stream_core.specs.Written.{IsWritten, Prints}
use Rattle.stream_core.specs.declared.reader.CountedReader.{CountedReader}
use Rattle.stream_core.specs.declared.writer.CountedWriter.{CountedWriter}
use Rattle.desk_program.specs.declared.fault.InputFault.{InputFault}
use Rattle.desk_program.specs.declared.fault.InputFault.TheVariants.{Read}
use Rattle.desk_program.specs.declared.line.Line.{Line}
use Rattle.desk_program.specs.declared.line.Line.TheVariants.{PassedOver, BadWords, Asked}

-- ---- a line

-- the first byte that isn't a space is `#`
abbrev pub is_comment : List ℕ → Bool
is_comment [] = false
is_comment (b ∷ bs) = if b == 32 then is_comment bs else b == 35

-- an empty line, or a comment
abbrev pub is_passed_over : List ℕ → Bool
is_passed_over [] = true
is_passed_over (b ∷ bs) = is_comment (b ∷ bs)

abbrev pub line_if_spelled : Option ℕ → List ℕ → Option Command → Line
line_if_spelled (Some at) caller (Some command) = Asked at caller command
line_if_spelled at caller command = BadWords

-- the moment, the caller and the words of a command; no words spell no command, so that fewer than
-- three are bad words
abbrev pub line_of_words : List (List ℕ) → Line
line_of_words (at ∷ caller ∷ words) = line_if_spelled (number_of at) caller (command_of words)
line_of_words fewer = BadWords

abbrev pub line_if_words : Option (List (List ℕ)) → Line
line_if_words None = BadWords
line_if_words (Some words) = line_of_words words

-- what a line says
abbrev pub line_of : List ℕ → Line
line_of text = if is_passed_over text then PassedOver else line_if_words (words_of text)

abbrev pub bad_words_text : List ℕ
bad_words_text = codes "bad words\n"

-- what is printed for a line without a command: `bad words`, or that there was no memory for it
abbrev pub IsBadWordsText : List ℕ → Type 0
IsBadWordsText text = (text ≡ bad_words_text) ⊎ (text ≡ unavailable_text)

-- What a line prints, and the desk after it. A command that is out of memory prints that, and is
-- left out.
abbrev pub LinePrints : Settings → Line → Desk → List ℕ → Desk → Type 0
LinePrints settings PassedOver old text new = (text ≡ []) × (new ≡ old)
LinePrints settings BadWords old text new = IsBadWordsText text × (new ≡ old)
LinePrints settings (Asked at caller command) old text new =
    (outcome : Outcome) × Steps settings at caller command old outcome new
    × (text ≡ outcome_text outcome)

-- over tables: whatever desk they stand for before a line, afterwards they stand for a well-formed
-- one, which the line leaves
abbrev pub LineLeads : Settings → Line → List ℕ → State → State → Type 0
LineLeads settings line text =
    OverTables settings (λ desk after. LinePrints settings line desk text after)

-- whatever a connection shows, its disk is clean
abbrev pub HasCleanDisks : {S : Type 0} → Ghosts S → Type 0
HasCleanDisks {S} g = (conn : Held S) → HasCleanDisk (state g conn)

-- ---- lines

-- the command of a line that has one, in front of these
abbrev pub with_ask : Line → List Ask → List Ask
with_ask (Asked at caller command) asks =
    record { at = at; caller = caller; command = command } ∷ asks
with_ask line asks = asks

-- the commands of lines, in their order
abbrev pub asks_of : List (List ℕ) → List Ask
asks_of [] = []
asks_of (line ∷ rest) = with_ask (line_of line) (asks_of rest)

-- The text of a line, and the outcomes that it leaves to the lines after it: a command's text is
-- that of the first outcome.
abbrev pub IsLineText : Line → List Outcome → List Outcome → List ℕ → Type 0
IsLineText PassedOver outcomes left text = (text ≡ []) × (left ≡ outcomes)
IsLineText BadWords outcomes left text = IsBadWordsText text × (left ≡ outcomes)
IsLineText (Asked at caller command) outcomes left text =
    (outcome : Outcome) × (outcomes ≡ outcome ∷ left) × (text ≡ outcome_text outcome)

-- the texts of lines one after the other, where these are the outcomes of their commands
abbrev pub AreLineTexts : List (List ℕ) → List Outcome → List ℕ → Type 0
AreLineTexts [] outcomes text = (outcomes ≡ []) × (text ≡ [])
AreLineTexts (line ∷ rest) outcomes text =
    (first : List ℕ) × (others : List ℕ) × (left : List Outcome)
    × IsLineText (line_of line) outcomes left first × AreLineTexts rest left others
    × (text ≡ first ++ others)

-- each line's text, from a run of the commands that begins with the empty desk
abbrev pub AnswersCommands : Settings → List ℕ → List ℕ → Type 0
AnswersCommands settings commands text =
    (outcomes : List Outcome) × (new : Desk)
    × Runs settings empty_desk (asks_of (lines commands)) outcomes new
    × AreLineTexts (lines commands) outcomes text

-- ---- a script

-- The line where there is no desk for commands: memory is refused for its store, for its tables, or
-- for reading them when the settings are attached. Nothing else can be wrong with an empty desk.
abbrev pub IsNoDesk : List ℕ → Type 0
IsNoDesk text =
    (text ≡ store_fault_text Refused)
    ⊎ ((text ≡ attach_fault_text NoMemory) ⊎ (text ≡ attach_fault_text (Store Refused)))

-- the text and the status of commands with settings, on an empty desk if there is one, or of the
-- settings' fault
abbrev pub IsCommandsOutput : Result Settings SettingsFault → List ℕ → List ℕ → ℕ → Type 0
IsCommandsOutput (Err fault) commands text status =
    (text ≡ settings_fault_text fault) × (status ≡ 3)
IsCommandsOutput (Ok settings) commands text status =
    (AnswersCommands settings commands text × (status ≡ 0)) ⊎ (IsNoDesk text × (status ≡ 4))

-- the text and the status of a script, or of the fault of its input
abbrev pub IsScriptOutput : Result Script InputFault → List ℕ → ℕ → Type 0
IsScriptOutput (Err fault) text status = (text ≡ input_fault_text fault) × (status ≡ 4)
IsScriptOutput (Ok script) text status =
    (given : Result Settings SettingsFault) × GivesSettings script.settings given
    × IsCommandsOutput given script.commands text status

-- the text and the status of an input, or of a failed read, which may stand in place of any other
abbrev pub IsOutput : List ℕ → List ℕ → ℕ → Type 0
IsOutput input text status =
    ((text ≡ input_fault_text Read) × (status ≡ 4))
    ⊎ ((script : Result Script InputFault) × IsScript input script
    × IsScriptOutput script text status)

-- A script was run: its output was printed, and the status is that of the output, or 4 after a
-- failed write. The input is all that its reader had, where that is known.
pub record RunsScript {R W : Type 0} (remaining : R → Option (List ℕ))
    (contents : W → Option (List ℕ)) (reader : CountedReader R) (old new : CountedWriter W)
    (ended : ℕ) : Type 0 where
  pub input : List ℕ
  pub text : List ℕ
  pub status : ℕ
  pub whole : IfSome (left_in remaining reader) (λ all. all ≡ input)
  pub output : IsOutput input text status
  pub printed : Prints contents old new text
  pub told : ended ≡ (if has_write_failed new then 4 else status)

-- The same of a reader and a writer that don't count: the output was written, whole or up to a write
-- that failed.
pub record WritesScript (known old new : Option (List ℕ)) (ended : ℕ) : Type 0 where
  pub input : List ℕ
  pub text : List ℕ
  pub status : ℕ
  pub failed : Bool
  pub whole : IfSome known (λ all. all ≡ input)
  pub output : IsOutput input text status
  pub written : IsWritten failed old new text
  pub told : ended ≡ (if failed then 4 else status)
