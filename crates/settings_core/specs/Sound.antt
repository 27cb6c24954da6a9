-- Settings whose lifecycles have no fault.
use Rattle.std.specs.Prelude.{◌≡◌, ℕ, List, Some, None}
use Rattle.lifecycle_core.specs.Fault.{fault_of}
use Rattle.lifecycle_core.specs.declared.parts.Parts.{Parts}
use Rattle.settings_core.specs.Settings.{lifecycle_named}
use Rattle.settings_core.specs.declared.settings.Settings.{Settings}

-- no lifecycle that the settings know has a fault
abbrev pub AreSound : Settings → Type 0
AreSound settings =
    (name : List ℕ) (lifecycle : Parts) → lifecycle_named settings name ≡ Some lifecycle
    → fault_of lifecycle ≡ None
