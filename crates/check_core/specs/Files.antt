-- What is wrong first with settings and a file of tables.
use Rattle.std.specs.Prelude.{◌≡◌, ◌⊎◌, ℕ, List, [], None, Option, Some, ⊤}
use Rattle.settings_core.specs.Reading.{IsFaultOf, IsSettingsOf}
use Rattle.settings_core.specs.Settings.{tokens_of}
use Rattle.settings_core.specs.declared.fault.SettingsFault.{SettingsFault}
use Rattle.settings_core.specs.declared.settings.Settings.{Settings}
use Rattle.check_core.specs.Weak.{warnings}
use Rattle.check_core.specs.declared.files.Finding.{Finding}
use Rattle.check_core.specs.declared.files.Finding.TheVariants as finding

-- it isn't of the settings
abbrev pub IsOfTables : Option Finding → Type 0
IsOfTables (Some (finding.Settings told)) = ⊥
IsOfTables other = ⊤

-- of the settings where the text has a fault, and else of the tables or nothing
abbrev pub IsFinding : List ℕ → Option Finding → Type 0
IsFinding bytes (Some (finding.Settings told)) = (f : SettingsFault) × IsFaultOf bytes f
IsFinding bytes other = (settings : Settings) × IsSettingsOf bytes settings

-- the lines that warn of the tokens of the settings, or none where the text has a fault
abbrev pub IsWarnedOf : List ℕ → List ℕ → Type 0
IsWarnedOf bytes told =
    ((settings : Settings) × IsSettingsOf bytes settings × (told ≡ warnings (tokens_of settings)))
    ⊎ ((f : SettingsFault) × IsFaultOf bytes f × (told ≡ []))
