-- Which names of a settings text are known.
use Rattle.std.specs.Prelude.{ℕ, Bool, ◌&&◌, ◌||◌, List, is_some, codes}
use Rattle.std.specs.List.{list_all, list_any}
use Rattle.std.specs.Str.{bytes_eq}
use Rattle.toml.specs.Data.{Members, get_member}
use Rattle.hours_core.specs.declared.level.Level.{Level}
use Rattle.lifecycle_core.specs.Lifecycle.{names_right, is_status}
use Rattle.lifecycle_core.specs.declared.parts.Parts as lifecycles
use Rattle.rights_core.specs.People.{is_among, knows}
use Rattle.rights_core.specs.Right.{standard_rights}
use Rattle.rights_core.specs.declared.grant.Grant.{Grant}
use Rattle.rights_core.specs.declared.parts.Parts.{Parts}
use Rattle.settings_parts.specs.PeopleParts.{people_in, tokens_of}
use Rattle.settings_parts.specs.declared.people.Token.{Token}
use Rattle.settings_core.specs.Calendars.{calendar_tables}
use Rattle.settings_core.specs.Levels.{levels_of}
use Rattle.settings_core.specs.Lifecycles.{lifecycles_of}
use Rattle.settings_core.specs.declared.named.Named.{Named}

-- a right is standard, or the rights of a lifecycle name it
abbrev pub knows_right : List (Named lifecycles.Parts) → List ℕ → Bool
knows_right lifecycles right =
    is_among standard_rights right || list_any (λ l. names_right l.value right) lifecycles

abbrev pub knows_rights : List (Named lifecycles.Parts) → List Grant → Bool
knows_rights lifecycles grants = list_all (λ g. knows_right lifecycles g.right) grants

-- a text has the calendar, or it is the calendar `default`
abbrev pub has_calendar : Members → List ℕ → Bool
has_calendar ms name = is_some (get_member name (calendar_tables ms))

abbrev pub knows_calendar : Members → List ℕ → Bool
knows_calendar ms name = bytes_eq name (codes "default") || has_calendar ms name

abbrev pub knows_calendars : Members → List (Named Level) → Bool
knows_calendars ms levels = list_all (λ l. knows_calendar ms l.value.calendar) levels

-- a status is one of some lifecycle
abbrev pub knows_status : List (Named lifecycles.Parts) → List ℕ → Bool
knows_status lifecycles status = list_any (λ l. is_status l.value status) lifecycles

-- the statuses that levels ignore
abbrev pub knows_ignored : List (Named lifecycles.Parts) → List (Named Level) → Bool
knows_ignored lifecycles levels =
    list_all (λ l. list_all (knows_status lifecycles) l.value.ignore) levels

abbrev pub knows_persons : Parts → List Token → Bool
knows_persons people tokens = list_all (λ t. knows people t.person) tokens

-- the granted rights, the levels' calendars and statuses, and the tokens' persons are known
abbrev pub knows_names : Members → Bool
knows_names ms =
    knows_rights (lifecycles_of ms) (people_in ms).grants
    && knows_calendars ms (levels_of ms) && knows_ignored (lifecycles_of ms) (levels_of ms)
    && knows_persons (people_in ms) (tokens_of ms)
