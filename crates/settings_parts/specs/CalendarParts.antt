-- The parts of a calendar.
use Rattle.std.specs.Prelude.{ℕ, ℤ, pos, List, [], ◌∷◌, map, unwrap_or, codes}
use Rattle.std.specs.Prelude.{Option, Some, None, Result}
use Rattle.toml.specs.Data.{Members}
use Rattle.hours_core.specs.Rules.{zone_by_rule}
use Rattle.hours_core.specs.Zone.{Offsets, zone_of}
use Rattle.hours_core.specs.declared.fault.HoursFault.{HoursFault}
use Rattle.settings_form.specs.TextForms.{day_of, interval_of}
use Rattle.settings_parts.specs.Values.{integer_at, text_at, texts_at, pair_at, pairs_at}
use Rattle.settings_parts.specs.declared.calendar.CalendarParts.{CalendarParts}

-- the intervals at a day of the week
abbrev pub intervals_at : List ℕ → Members → List (ℕ × ℕ)
intervals_at day ms = map interval_of (texts_at day ms)

abbrev pub week_of : Members → List (List (ℕ × ℕ))
week_of ms =
    intervals_at (codes "sun") ms ∷ intervals_at (codes "mon") ms ∷ intervals_at (codes "tue") ms
    ∷ intervals_at (codes "wed") ms ∷ intervals_at (codes "thu") ms ∷ intervals_at (codes "fri") ms
    ∷ intervals_at (codes "sat") ms ∷ []

-- the days that are holidays
abbrev pub holidays_of : Members → List ℕ
holidays_of ms = map day_of (texts_at (codes "holidays") ms)

-- what a table states of a calendar: its zone, or why there is none, and its other parts
pub record StatedHours : Type 0 where
  pub zone : Result Offsets HoursFault
  pub week : List (List (ℕ × ℕ))
  pub holidays : List ℕ
  pub years : ℤ × ℤ

-- the zone of a rule in these years, or without a rule of a first offset and changes
abbrev pub zone_stated : Option (List ℕ) → ℤ → List (ℤ × ℤ) → ℤ × ℤ → Result Offsets HoursFault
zone_stated None first changes years = zone_of first changes
zone_stated (Some rule) first changes years = zone_by_rule rule years

-- the years of a table, by default all in which moments lie
abbrev pub years_of : Members → ℤ × ℤ
years_of ms = unwrap_or (pair_at (codes "years") ms) (pos 2000, pos 2099)

-- the opening hours that a table states, by default in UTC
abbrev pub hours_of : Members → StatedHours
hours_of ms =
    record {
      zone = zone_stated (text_at (codes "rule") ms)
          (unwrap_or (integer_at (codes "offset") ms) (pos 0)) (pairs_at (codes "changes") ms)
          (years_of ms);
      week = week_of ms;
      holidays = holidays_of ms;
      years = years_of ms;
    }

-- the opening hours of the parts that a calendar is built of
abbrev pub hours_stated : CalendarParts → StatedHours
hours_stated p =
    record {
      zone = zone_stated p.rule p.offset p.changes.items p.years;
      week = p.week;
      holidays = p.holidays.items;
      years = p.years;
    }
