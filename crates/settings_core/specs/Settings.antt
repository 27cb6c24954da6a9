-- What settings say. Contracts above speak of settings by these words alone.
use Rattle.std.specs.Prelude.{ℕ, Bool, List, Option}
use Rattle.std.specs.Option.{option_map}
use Rattle.hours_core.specs.Zone.{Offsets}
use Rattle.hours_core.specs.declared.calendar.Calendar.{Calendar}
use Rattle.hours_core.specs.declared.level.Level.{Level}
use Rattle.lifecycle_core.specs.declared.parts.Parts.{Parts}
use Rattle.rights_core.specs.People as people
use Rattle.rights_core.specs.declared.parts.Parts as rights
use Rattle.settings_parts.specs.declared.people.Token.{Token}
use Rattle.settings_core.specs.Named.{under}
use Rattle.settings_core.specs.Tokens.{person_under}
use Rattle.settings_core.specs.declared.calendars.Opening.{Opening}
use Rattle.settings_core.specs.declared.named.Named.{Named}
use Rattle.settings_core.specs.declared.settings.Settings.{Settings}

-- the persons, groups and grants
abbrev pub people_of : Settings → rights.Parts
people_of settings = settings.people

-- the name is that of a person of the settings
abbrev pub knows : Settings → List ℕ → Bool
knows settings name = people.knows settings.people name

-- the lifecycle of that name, if there is one
abbrev pub lifecycle_named : Settings → List ℕ → Option Parts
lifecycle_named settings name = under name settings.lifecycles

-- all lifecycles with their names
abbrev pub lifecycles_of : Settings → List (Named Parts)
lifecycles_of settings = settings.lifecycles

-- all levels with their names
abbrev pub levels_of : Settings → List (Named Level)
levels_of settings = settings.levels

-- all calendars with their names and zones
abbrev pub calendars_of : Settings → List (Named Opening)
calendars_of settings = settings.calendars

-- the calendar of that name, if there is one
abbrev pub calendar_named : Settings → List ℕ → Option Calendar
calendar_named settings name = option_map (λ o. o.calendar) (under name settings.calendars)

-- the zone of the calendar of that name, if there is one
abbrev pub zone_named : Settings → List ℕ → Option Offsets
zone_named settings name = option_map (λ o. o.zone) (under name settings.calendars)

-- the level of that name, if there is one
abbrev pub level_named : Settings → List ℕ → Option Level
level_named settings name = under name settings.levels

-- the person of a token, if there is one
abbrev pub person_of_token : Settings → List ℕ → Option (List ℕ)
person_of_token settings token = person_under token settings.tokens

-- all tokens with their persons
abbrev pub tokens_of : Settings → List Token
tokens_of settings = settings.tokens

-- how many requests a desk may have
abbrev pub request_limit : Settings → ℕ
request_limit settings = settings.max_requests

-- how many entries the history of a request may have
abbrev pub entry_limit : Settings → ℕ
entry_limit settings = settings.max_entries
