-- Opening hours: which minutes are open.
use Rattle.std.specs.Prelude.{ℕ, ◌+◌, ◌/◌, ◌%◌, Bool, true, not, ◌&&◌, ◌==◌, List, []}
use Rattle.std.specs.Prelude.{◌∷◌, length, nat_le, nat_lt, ℤ, pos, int_le, slice_get}
use Rattle.std.specs.Prelude.{unwrap_or, if◌then◌else◌, Option, Some, None}
use Rattle.std.specs.List.{list_all, list_any}
use Rattle.hours_core.specs.Date.{date_of_day}
use Rattle.hours_core.specs.Moment.{is_moment}
use Rattle.hours_core.specs.Zone.{Offsets, local_minute}
use Rattle.hours_core.specs.declared.fault.HoursFault.{HoursFault}
use Rattle.hours_core.specs.declared.fault.HoursFault.TheVariants.{BadInterval, BadYears}

-- the parts of a calendar: intervals of each day of the week from Sunday on, in minutes of the
-- local day; local days that are holidays; the first and the last year
pub record Hours : Type 0 where
  pub zone : Offsets
  pub week : List (List (ℕ × ℕ))
  pub holidays : List ℕ
  pub years : ℤ × ℤ

-- the opening hours of these parts
abbrev pub hours_of : Offsets → List (List (ℕ × ℕ)) → List ℕ → ℤ × ℤ → Hours
hours_of zone week holidays years =
    record { zone = zone; week = week; holidays = holidays; years = years }

-- the intervals of a local day, where day 0 was a Thursday
abbrev pub intervals_on : List (List (ℕ × ℕ)) → ℕ → List (ℕ × ℕ)
intervals_on week day = unwrap_or (slice_get week ((day + 4) % 7)) []

-- from its start to before its end
abbrev pub is_within : ℕ → ℕ × ℕ → Bool
is_within minute interval = nat_le interval.0 minute && nat_lt minute interval.1

abbrev pub is_between : ℤ × ℤ → ℕ → Bool
is_between years year = int_le years.0 (pos year) && int_le (pos year) years.1

-- a minute of a local day is in an interval of its weekday, and the day is no holiday and in a year
-- of the calendar
abbrev pub is_open_on : Hours → ℕ → ℕ → Bool
is_open_on hours day minute =
    list_any (is_within minute) (intervals_on hours.week day)
    && not (list_any (λ holiday. holiday == day) hours.holidays)
    && is_between hours.years (date_of_day day).0

-- a moment is open where its local minute is
unfoldable pub is_open : Hours → ℕ → Bool
is_open hours m =
    let local = local_minute hours.zone m in
    is_moment m && is_open_on hours (local / 1440) (local % 1440)

-- the intervals begin at a minute of the day or later, each after the end of the one before, and
-- end with the day
abbrev pub are_intervals : ℕ → List (ℕ × ℕ) → Bool
are_intervals earliest [] = true
are_intervals earliest (interval ∷ intervals) =
    nat_le earliest interval.0 && nat_lt interval.0 interval.1 && nat_le interval.1 1440
    && are_intervals interval.1 intervals

-- at most four
abbrev pub is_day : List (ℕ × ℕ) → Bool
is_day intervals = nat_le (length intervals) 4 && are_intervals 0 intervals

abbrev pub is_year : ℤ → Bool
is_year year = int_le (pos 2000) year && int_le year (pos 2099)

abbrev pub are_years : ℤ × ℤ → Bool
are_years years = is_year years.0 && is_year years.1 && int_le years.0 years.1

-- the least fault of a week and of years
abbrev pub calendar_fault : List (List (ℕ × ℕ)) → ℤ × ℤ → Option HoursFault
calendar_fault week years =
    if not (list_all is_day week) then Some BadInterval
    else (if not (are_years years) then Some BadYears
    else None)
