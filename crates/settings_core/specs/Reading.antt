-- The settings of a text, or its least fault.
use Rattle.std.specs.Prelude.{◌≡◌, ◌⊎◌, ℕ, Bool, true, not, ◌&&◌, List}
use Rattle.std.specs.Prelude.{Option, Some, None, codes, if◌then◌else◌}
use Rattle.std.specs.List.{list_all}
use Rattle.std.specs.Option.{option_map, option_map_or, option_or}
use Rattle.toml.specs.Data.{Members}
use Rattle.rights_core.specs.RightsFaults as rights
use Rattle.settings_form.specs.Text.{IsTree}
use Rattle.settings_form.specs.Walk.{form_fault}
use Rattle.settings_parts.specs.LevelParts.{is_from_one, number_up_to}
use Rattle.settings_parts.specs.PeopleParts.{people_in, tokens_of}
use Rattle.settings_parts.specs.Values.{integer_at, table_at}
use Rattle.settings_core.specs.Calendars.{calendars_fault, calendars_of, HasHoursIfAny}
use Rattle.settings_core.specs.Fault.{of_form}
use Rattle.settings_core.specs.Levels.{have_limits, levels_of}
use Rattle.settings_core.specs.Lifecycles.{lifecycles_fault, lifecycles_of}
use Rattle.settings_core.specs.Named.{under}
use Rattle.settings_core.specs.Names.{knows_names}
use Rattle.settings_core.specs.Settings.{people_of, lifecycle_named, calendar_named, zone_named}
use Rattle.settings_core.specs.Settings.{level_named, person_of_token, request_limit}
use Rattle.settings_core.specs.Settings.{entry_limit}
use Rattle.settings_core.specs.Tokens.{is_token, person_under}
use Rattle.settings_core.specs.declared.fault.SettingsFault.{SettingsFault}
use Rattle.settings_core.specs.declared.fault.SettingsFault.TheVariants.{NotToml, Rights}
use Rattle.settings_core.specs.declared.fault.SettingsFault.TheVariants.{UnknownName, BadToken}
use Rattle.settings_core.specs.declared.fault.SettingsFault.TheVariants.{BadLimit}
use Rattle.settings_core.specs.declared.settings.Settings.{Settings}

-- a number at a key, from 1 to the most, which is the number of a text without the key
abbrev pub count_at : List ℕ → ℕ → Members → ℕ
count_at k most ms = option_map_or (number_up_to most) (integer_at k ms) most

abbrev pub is_count_at : List ℕ → ℕ → Members → Bool
is_count_at k most ms = option_map_or (is_from_one most) (integer_at k ms) true

-- the limits of the levels, of requests and of entries are such
abbrev pub has_limits : Members → Bool
has_limits ms =
    have_limits (table_at (codes "level") ms) && is_count_at (codes "max_requests") 1000000 ms
    && is_count_at (codes "max_entries") 10000 ms

abbrev pub has_tokens : Members → Bool
has_tokens ms = list_all (λ t. is_token t.token) (tokens_of ms)

-- this fault, if it applies
abbrev pub when : SettingsFault → Bool → Option SettingsFault
when fault applies = if applies then Some fault else None

-- what the lower builds answer: hours, lifecycles, rights
abbrev pub build_fault : Members → Option SettingsFault
build_fault ms =
    option_or (calendars_fault ms)
    (option_or (lifecycles_fault ms) (option_map Rights (rights.fault_of (people_in ms))))

-- the least fault of the parts beside one another
abbrev pub late_fault : Members → Option SettingsFault
late_fault ms =
    option_or (when UnknownName (not (knows_names ms)))
    (option_or (when BadToken (not (has_tokens ms)))
    (when BadLimit (not (has_limits ms))))

-- the least fault of a tree without a fault of form
abbrev pub table_fault : Members → Option SettingsFault
table_fault ms = option_or (build_fault ms) (late_fault ms)

-- the least fault of a tree over the whole of it
abbrev pub fault_of : Members → Option SettingsFault
fault_of ms = option_or (option_map of_form (form_fault ms)) (table_fault ms)

-- the settings that a tree states, part by part
pub record IsStated (ms : Members) (settings : Settings) : Type 0 where
  pub people : people_of settings ≡ people_in ms
  pub lifecycles : (name : List ℕ)
      → lifecycle_named settings name ≡ under name (lifecycles_of ms)
  pub calendars : (name : List ℕ)
      → HasHoursIfAny (calendar_named settings name) (under name (calendars_of ms))
  pub zones : (name : List ℕ)
      → zone_named settings name ≡ option_map (λ h. h.zone) (under name (calendars_of ms))
  pub levels : (name : List ℕ) → level_named settings name ≡ under name (levels_of ms)
  pub tokens : (token : List ℕ) → person_of_token settings token ≡ person_under token (tokens_of ms)
  pub requests : request_limit settings ≡ count_at (codes "max_requests") 1000000 ms
  pub entries : entry_limit settings ≡ count_at (codes "max_entries") 10000 ms

-- the bytes are a text of these settings: a tree without a fault that states them
abbrev pub IsSettingsOf : List ℕ → Settings → Type 0
IsSettingsOf bytes settings =
    (ms : Members) × IsTree bytes ms × (fault_of ms ≡ None) × IsStated ms settings

-- the bytes have this fault: no tree, or a tree whose least fault it is
abbrev pub IsFaultOf : List ℕ → SettingsFault → Type 0
IsFaultOf bytes fault =
    ((fault ≡ NotToml) × ((ms : Members) → IsTree bytes ms → ⊥))
    ⊎ ((ms : Members) × IsTree bytes ms × (fault_of ms ≡ Some fault))
