-- The numbers and names of the faults of settings, and those of the fault inside one.
use Rattle.std.specs.Prelude.{ℕ, List, Option, Some, None, codes}
use Rattle.hours_core.specs.Fault as hours
use Rattle.hours_core.specs.declared.fault.HoursFault.{HoursFault}
use Rattle.hours_core.specs.declared.fault.HoursFault.TheVariants as in_hours
use Rattle.lifecycle_core.specs.Fault as lifecycle
use Rattle.lifecycle_core.specs.declared.fault.LifecycleFault.{LifecycleFault}
use Rattle.lifecycle_core.specs.declared.fault.LifecycleFault.TheVariants as in_lifecycle
use Rattle.rights_core.specs.RightsFaults as rights
use Rattle.rights_core.specs.declared.fault.RightsFault.{RightsFault}
use Rattle.rights_core.specs.declared.fault.RightsFault.TheVariants as in_rights
use Rattle.settings_form.specs.declared.fault.FormFault.{FormFault}
use Rattle.settings_form.specs.declared.fault.FormFault.TheVariants as form
use Rattle.settings_form.specs.declared.fault.TextFault.{TextFault}
use Rattle.settings_form.specs.declared.fault.TextFault.TheVariants as in_text
use Rattle.settings_core.specs.declared.fault.SettingsFault.{SettingsFault}
use Rattle.settings_core.specs.declared.fault.SettingsFault.TheVariants.{NotToml, UnknownKey}
use Rattle.settings_core.specs.declared.fault.SettingsFault.TheVariants.{Missing, WrongKind}
use Rattle.settings_core.specs.declared.fault.SettingsFault.TheVariants.{Hours, Lifecycle, Rights}
use Rattle.settings_core.specs.declared.fault.SettingsFault.TheVariants.{UnknownName, BadToken}
use Rattle.settings_core.specs.declared.fault.SettingsFault.TheVariants.{BadLimit, NoMemory}

abbrev pub number_of : SettingsFault → ℕ
number_of NotToml = 1
number_of UnknownKey = 2
number_of Missing = 3
number_of WrongKind = 4
number_of (Hours fault) = 5
number_of (Lifecycle fault) = 6
number_of (Rights fault) = 7
number_of UnknownName = 8
number_of BadToken = 9
number_of BadLimit = 10
number_of NoMemory = 11

abbrev pub name_of : SettingsFault → List ℕ
name_of NotToml = codes "NotToml"
name_of UnknownKey = codes "UnknownKey"
name_of Missing = codes "Missing"
name_of WrongKind = codes "WrongKind"
name_of (Hours fault) = codes "Hours"
name_of (Lifecycle fault) = codes "Lifecycle"
name_of (Rights fault) = codes "Rights"
name_of UnknownName = codes "UnknownName"
name_of BadToken = codes "BadToken"
name_of BadLimit = codes "BadLimit"
name_of NoMemory = codes "NoMemory"

-- the number and the name of the fault inside, if there is one
abbrev pub inner_of : SettingsFault → Option (ℕ × List ℕ)
inner_of (Hours fault) = Some (hours.number_of fault, hours.name_of fault)
inner_of (Lifecycle fault) = Some (lifecycle.number_of fault, lifecycle.name_of fault)
inner_of (Rights fault) = Some (rights.number_of fault, rights.name_of fault)
inner_of _ = None

-- the fault of form as one of settings
abbrev pub of_form : FormFault → SettingsFault
of_form form.UnknownKey = UnknownKey
of_form form.Missing = Missing
of_form form.WrongKind = WrongKind

-- a fault of a part as one of settings, where out of memory is that of settings
abbrev pub of_text : TextFault → SettingsFault
of_text in_text.NoMemory = NoMemory
of_text in_text.NotToml = NotToml
of_text (in_text.Form fault) = of_form fault

abbrev pub of_hours : HoursFault → SettingsFault
of_hours in_hours.NoMemory = NoMemory
of_hours fault = Hours fault

abbrev pub of_lifecycle : LifecycleFault → SettingsFault
of_lifecycle in_lifecycle.NoMemory = NoMemory
of_lifecycle fault = Lifecycle fault

abbrev pub of_rights : RightsFault → SettingsFault
of_rights in_rights.NoMemory = NoMemory
of_rights fault = Rights fault
