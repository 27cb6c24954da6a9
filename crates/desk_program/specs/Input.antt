-- A script's input: settings, a line `%%`, and commands, a line each.
use Rattle.std.specs.Prelude.{◌≡◌, ◌≢◌, ◌≤◌, ◌<◌, ◌⊎◌, ◌+◌, ℕ, List, [], ◌∷◌, ◌++◌, take, drop}
use Rattle.std.specs.Prelude.{length, Option, Some, None, IfSome, Result, Ok, Err, codes}
use Rattle.std.specs.Prelude.{if◌then◌else◌}
use Rattle.std.specs.Io.KnownBytes.{Consumes, IsAtEnd}
use Rattle.std.specs.List.{All}
use Rattle.std.specs.Str.{bytes_eq, is_utf8}
use Rattle.std.specs.Str.Lines.{lines}
use Rattle.settings_core.specs.Reading.{IsFaultOf, IsSettingsOf}
use Rattle.settings_core.specs.declared.fault.SettingsFault.{SettingsFault}
use Rattle.settings_core.specs.declared.fault.SettingsFault.TheVariants.{NoMemory}
use Rattle.settings_core.specs.declared.settings.Settings.{Settings}
use Rattle.desk_program.specs.declared.fault.InputFault.{InputFault}
use Rattle.desk_program.specs.declared.fault.InputFault.TheVariants.{NoMarker, TooLong, NotUtf8}
use Rattle.desk_program.specs.declared.fault.InputFault.TheVariants.{Read}

-- the most bytes of a script
abbrev pub input_limit : ℕ
input_limit = 1048576

-- what a reader has left, where it is known, is more than a script may have
abbrev pub IsLong : Option (List ℕ) → Type 0
IsLong known =
    (input : List ℕ) × (input_limit < length input) × IfSome known (λ all. all ≡ input)

-- One read: so many bytes went from the front of a stream to the end of those taken so far, none of
-- them only where the stream has ended. Or it failed, or there was no memory for them.
abbrev pub TakesMore : Option (List ℕ) → Option (List ℕ) → List ℕ → List ℕ → Result ℕ InputFault
    → Type 0
TakesMore had left old new (Ok n) =
    (length new ≡ length old + n)
    × ((bytes : List ℕ) × (new ≡ old ++ bytes) × Consumes had left bytes)
    × (n ≡ 0 → IsAtEnd left)
TakesMore had left old new (Err fault) = fault ≡ Read

-- no line of a text is `%%`
abbrev pub HasNoMarker : List ℕ → Type 0
HasNoMarker text = All (λ line. line ≢ codes "%%") (lines text)

-- what ends a line in front of a text: a line feed, a carriage return and one, or the input's end
abbrev pub EndsLine : List ℕ → List ℕ → Type 0
EndsLine ending rest =
    ((ending ≡ []) × (rest ≡ [])) ⊎ ((ending ≡ codes "\n") ⊎ (ending ≡ codes "\r\n"))

-- the first line `%%` of an input stands between its settings and its commands
pub record SplitsAtMarker (input settings commands : List ℕ) : Type 0 where
  pub ending : List ℕ
  pub whole : input ≡ settings ++ (codes "%%" ++ (ending ++ commands))
  pub ends : EndsLine ending commands
  pub by_lines : lines input ≡ lines settings ++ (codes "%%" ∷ lines commands)
  pub first : HasNoMarker settings

-- the settings and the commands of an input, or none where no line is `%%`
abbrev pub IsSplitOf : List ℕ → Option (List ℕ × List ℕ) → Type 0
IsSplitOf input None = HasNoMarker input
IsSplitOf input (Some parts) = SplitsAtMarker input parts.0 parts.1

-- what follows a line `%%` at the front, which a line feed ends, a carriage return and one, or the
-- input's end
abbrev pub after_marker : List ℕ → Option (List ℕ)
after_marker text =
    if bytes_eq text (codes "%%") then Some []
    else if bytes_eq (take 3 text) (codes "%%\n") then Some (drop 3 text)
    else if bytes_eq (take 4 text) (codes "%%\r\n") then Some (drop 4 text)
    else None

-- the settings and the commands of an input
pub record Script : Type 0 where
  pub settings : List ℕ
  pub commands : List ℕ

abbrev pub script_of_parts : Option (List ℕ × List ℕ) → Result Script InputFault
script_of_parts None = Err NoMarker
script_of_parts (Some parts) =
    if is_utf8 parts.1 then Ok (record { settings = parts.0; commands = parts.1 })
    else Err NotUtf8

-- the script of an input that isn't too long, or its least fault
abbrev pub IsScriptWithin : List ℕ → Result Script InputFault → Type 0
IsScriptWithin input script =
    (parts : Option (List ℕ × List ℕ)) × IsSplitOf input parts × (script ≡ script_of_parts parts)

-- the script that an input is, or its least fault
abbrev pub IsScript : List ℕ → Result Script InputFault → Type 0
IsScript input script =
    ((input_limit < length input) × (script ≡ Err TooLong))
    ⊎ ((length input ≤ input_limit) × IsScriptWithin input script)

-- What reading settings gives: those that a text states, or its least fault; or out of memory.
abbrev pub GivesSettings : List ℕ → Result Settings SettingsFault → Type 0
GivesSettings text (Ok settings) = IsSettingsOf text settings
GivesSettings text (Err fault) = (fault ≡ NoMemory) ⊎ IsFaultOf text fault
