-- Reading settings gives those that a text states, or its least fault, or is out of memory.
use Rattle.std.proofs.Common.{◌≡◌, ◌≢◌, inl, inr, ℕ, ◌⊎◌, List, IfOk, IfErr, Result, Ok, Err, refl}
use Rattle.settings_core.specs.Reading.{IsFaultOf, IsSettingsOf}
use Rattle.settings_core.specs.declared.fault.SettingsFault.{SettingsFault}
use Rattle.settings_core.specs.declared.fault.SettingsFault.TheVariants.{NoMemory}
use Rattle.settings_core.specs.declared.settings.Settings.{Settings}
use Rattle.desk_program.specs.Input.{GivesSettings}

-- out of memory, or the fault of the text
either_fault : (text : List ℕ) (fault : SettingsFault)
    → (fault ≢ NoMemory → IsFaultOf text fault) → (fault ≡ NoMemory) ⊎ IsFaultOf text fault
either_fault text NoMemory stated = inl refl
either_fault text other stated = inr (stated (λ e. cc))

pub gives_settings : (text : List ℕ) (given : Result Settings SettingsFault)
    → IfOk given (IsSettingsOf text)
    → IfErr given (λ fault. fault ≢ NoMemory → IsFaultOf text fault) → GivesSettings text given
gives_settings text (Ok settings) right wrong = right
gives_settings text (Err fault) right wrong = either_fault text fault wrong
