-- The first lifecycle and the first calendar that have a fault.
use Rattle.std.specs.Prelude.{ℕ, List, Option, Some, None, codes, is_some, if◌then◌else◌}
use Rattle.toml.specs.Data.{Members, no_members, member}
use Rattle.settings_parts.specs.Values.{members_of, table_at}
use Rattle.settings_core.specs.Calendars as calendars
use Rattle.settings_core.specs.Lifecycles as lifecycles
use Rattle.settings_core.specs.declared.fault.SettingsFault.{SettingsFault}

-- the name of the first table that has a fault
abbrev pub bad_in : (Members → Option SettingsFault) → Members → Option (List ℕ)
bad_in fault_of no_members = None
bad_in fault_of (member k d ms) =
    if is_some (fault_of (members_of d)) then Some k else bad_in fault_of ms

abbrev pub bad_lifecycle : Members → Option (List ℕ)
bad_lifecycle ms = bad_in lifecycles.table_fault (table_at (codes "lifecycle") ms)

abbrev pub bad_calendar : Members → Option (List ℕ)
bad_calendar ms = bad_in calendars.table_fault (calendars.calendar_tables ms)
