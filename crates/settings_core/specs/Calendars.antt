-- The calendars of a settings text.
use Rattle.std.specs.Prelude.{◌≡◌, ℕ, List, [], ◌∷◌, Option, Some, None, Result, Ok, Err}
use Rattle.std.specs.Prelude.{pos, codes}
use Rattle.std.specs.Option.{option_map, option_or}
use Rattle.std.specs.Result.{result_err}
use Rattle.toml.specs.Data.{Members}
use Rattle.hours_core.specs.Calendar.{HasHours}
use Rattle.hours_core.specs.Hours.{Hours, calendar_fault, hours_of as hours_of_parts}
use Rattle.hours_core.specs.Zone.{Offsets}
use Rattle.hours_core.specs.declared.calendar.Calendar.{Calendar}
use Rattle.hours_core.specs.declared.fault.HoursFault.{HoursFault}
use Rattle.settings_parts.specs.CalendarParts.{StatedHours, hours_of}
use Rattle.settings_parts.specs.Values.{table_at}
use Rattle.settings_core.specs.Stated.{Have, fault_in, with_standard}
use Rattle.settings_core.specs.declared.calendars.Opening.{Opening}
use Rattle.settings_core.specs.declared.fault.SettingsFault.{SettingsFault}
use Rattle.settings_core.specs.declared.fault.SettingsFault.TheVariants.{Hours as InHours}
use Rattle.settings_core.specs.declared.named.Named.{Named}

-- the zone, or UTC where there is none
abbrev pub offsets_of : Result Offsets HoursFault → Offsets
offsets_of (Ok zone) = zone
offsets_of (Err fault) = record { first = pos 0; changes = [] }

-- the opening hours that were stated, where they have no fault
abbrev pub hours_by : StatedHours → Hours
hours_by stated =
    hours_of_parts (offsets_of stated.zone) stated.week stated.holidays stated.years

-- the least fault of opening hours, that of the zone before that of the calendar
abbrev pub hours_fault : StatedHours → Option HoursFault
hours_fault stated =
    option_or (result_err stated.zone) (calendar_fault stated.week stated.years)

-- the opening hours of a table, and their fault
abbrev pub table_hours : Members → Hours
table_hours ms = hours_by (hours_of ms)

abbrev pub table_fault : Members → Option SettingsFault
table_fault ms = option_map InHours (hours_fault (hours_of ms))

-- from 09:00 to 18:00
abbrev pub working_day : List (ℕ × ℕ)
working_day = (540, 1080) ∷ []

-- Monday to Friday in UTC, from 2000 to 2099
abbrev pub standard_stated : StatedHours
standard_stated =
    record {
      zone = Ok (record { first = pos 0; changes = [] });
      week = [] ∷ working_day ∷ working_day ∷ working_day ∷ working_day ∷ working_day ∷ [] ∷ [];
      holidays = [];
      years = (pos 2000, pos 2099);
    }

abbrev pub standard_hours : Hours
standard_hours = hours_by standard_stated

-- the tables of a text's calendars
abbrev pub calendar_tables : Members → Members
calendar_tables ms = table_at (codes "calendar") ms

-- the calendars of a text, and `default` where it has none of that name
abbrev pub calendars_of : Members → List (Named Hours)
calendars_of ms = with_standard table_hours standard_hours (calendar_tables ms)

abbrev pub calendars_fault : Members → Option SettingsFault
calendars_fault ms = fault_in table_fault (calendar_tables ms)

-- the calendar has these opening hours, and the zone is theirs
abbrev pub HasOpening : Opening → Hours → Type 0
HasOpening opening hours = HasHours opening.calendar hours × (opening.zone ≡ hours.zone)

-- there are both or neither, and the calendar has these opening hours
abbrev pub HasHoursIfAny : Option Calendar → Option Hours → Type 0
HasHoursIfAny None None = Unit {0}
HasHoursIfAny (Some calendar) (Some hours) = HasHours calendar hours
HasHoursIfAny _ _ = ⊥

-- one by one the calendars have these names, opening hours and zones
abbrev pub HaveHours : List (Named Opening) → List (Named Hours) → Type 0
HaveHours = Have HasOpening

-- a calendar of the opening hours that were stated, which have no fault, with its zone
abbrev pub IsOpeningOf : StatedHours → Opening → Type 0
IsOpeningOf stated opening = (hours_fault stated ≡ None) × HasOpening opening (hours_by stated)
