-- The lifecycles of a settings text.
use Rattle.std.specs.Prelude.{◌≡◌, List, Option, None, codes}
use Rattle.std.specs.Option.{option_map}
use Rattle.toml.specs.Data.{Members}
use Rattle.lifecycle_core.specs.Fault.{fault_of}
use Rattle.lifecycle_core.specs.Standard.{default_lifecycle}
use Rattle.lifecycle_core.specs.declared.parts.Parts.{Parts}
use Rattle.settings_parts.specs.LifecycleParts.{lifecycle_of}
use Rattle.settings_parts.specs.Values.{table_at}
use Rattle.settings_core.specs.Stated.{fault_in, parts_in, with_standard}
use Rattle.settings_core.specs.declared.fault.SettingsFault.{SettingsFault}
use Rattle.settings_core.specs.declared.fault.SettingsFault.TheVariants.{Lifecycle}
use Rattle.settings_core.specs.declared.named.Named.{Named}

-- the lifecycles of a table of lifecycles
abbrev pub lifecycles_in : Members → List (Named Parts)
lifecycles_in = parts_in lifecycle_of

-- the fault of a lifecycle's table
abbrev pub table_fault : Members → Option SettingsFault
table_fault ms = option_map Lifecycle (fault_of (lifecycle_of ms))

-- the lifecycles of a text, and `default` where it has none of that name
abbrev pub lifecycles_of : Members → List (Named Parts)
lifecycles_of ms = with_standard lifecycle_of default_lifecycle (table_at (codes "lifecycle") ms)

abbrev pub lifecycles_fault : Members → Option SettingsFault
lifecycles_fault ms = fault_in table_fault (table_at (codes "lifecycle") ms)

-- a lifecycle of these parts, which have no fault
abbrev pub IsLifecycleOf : Parts → Parts → Type 0
IsLifecycleOf parts lifecycle = (fault_of parts ≡ None) × (lifecycle ≡ parts)
