-- Examples of the definitions: when summer time begins and ends by rules of Berlin and of Sydney,
-- the minutes beside these moments, and rules without summer time.
use Rattle.std.specs.Prelude.{◌≡◌, refl, ℤ, true, false, pos, neg_ℤ, None, codes}
use Rattle.jiff_core.specs.Calendar.{days_from_civil, day_count, days_of_years, days_of_months}
use Rattle.jiff_core.specs.Calendar.{weekday_number}
use Rattle.jiff_tz.specs.PosixRule.{in_window, rule_day}
use Rattle.jiff_tz.specs.PosixText.{DstText, TzText}
use Rattle.jiff_tz.specs.declared.posix.Day.TheVariants.{WeekdayOfMonth}
use Rattle.zone_rules.specs.Rule.{end_of_rules, nanos, seconds_at, summer_in}

-- Rule.antt: instants

-- a minute's first second, in nanoseconds
instant_of_a_minute : nanos 1 ≡ pos 60_000_000_000
instant_of_a_minute = refl

-- Rule.antt: summer time of a year

-- of "CET-1CEST,M3.5.0,M10.5.0/3": from the last Sunday of March, 02:00, an hour ahead of UTC, to
-- the last Sunday of October, 03:00, two hours ahead
abbrev of_berlin : DstText
of_berlin =
    record {
      name = codes "CEST";
      seconds = pos 7200;
      start = (WeekdayOfMonth 3 5 0, pos 7200);
      finish = (WeekdayOfMonth 10 5 0, pos 10800);
    }

-- 2026-03-29 01:00 and 2026-10-25 01:00, UTC
summer_of_berlin :
    summer_in of_berlin (pos 2026) (pos 3600) ≡ (nanos 29579100, nanos 29881500)
unfolding rule_day days_from_civil day_count days_of_years days_of_months weekday_number
summer_of_berlin = refl

-- 2027-03-28 01:00 and 2027-10-31 01:00, UTC
next_summer_of_berlin :
    summer_in of_berlin (pos 2027) (pos 3600) ≡ (nanos 30103260, nanos 30415740)
unfolding rule_day days_from_civil day_count days_of_years days_of_months weekday_number
next_summer_of_berlin = refl

last_minute_of_winter : in_window (nanos 29579100, nanos 29881500) (nanos 29579099) ≡ false
last_minute_of_winter = refl

first_minute_of_summer : in_window (nanos 29579100, nanos 29881500) (nanos 29579100) ≡ true
first_minute_of_summer = refl

last_minute_of_summer : in_window (nanos 29579100, nanos 29881500) (nanos 29881499) ≡ true
last_minute_of_summer = refl

first_minute_of_winter : in_window (nanos 29579100, nanos 29881500) (nanos 29881500) ≡ false
first_minute_of_winter = refl

-- of "AEST-10AEDT,M10.1.0,M4.1.0/3", where summer time goes over the new year
abbrev of_sydney : DstText
of_sydney =
    record {
      name = codes "AEDT";
      seconds = pos 39600;
      start = (WeekdayOfMonth 10 1 0, pos 7200);
      finish = (WeekdayOfMonth 4 1 0, pos 10800);
    }

-- 2026-10-03 16:00 and 2026-04-04 16:00, UTC
summer_of_sydney :
    summer_in of_sydney (pos 2026) (pos 36000) ≡ (nanos 29850720, nanos 29588640)
unfolding rule_day days_from_civil day_count days_of_years days_of_months weekday_number
summer_of_sydney = refl

-- 2026-12-31 23:59
summer_at_the_end_of_the_year :
    in_window (nanos 29850720, nanos 29588640) (nanos 29979359) ≡ true
summer_at_the_end_of_the_year = refl

-- 2026-04-04 16:00
winter_within_the_year : in_window (nanos 29850720, nanos 29588640) (nanos 29588640) ≡ false
winter_within_the_year = refl

-- Rule.antt: the offset without summer time

abbrev fixed : ℤ → TzText
fixed seconds = record { std_name = codes "XXX"; std_seconds = seconds; dst = None }

an_hour_ahead : seconds_at (fixed (pos 3600)) (nanos 29579100) ≡ pos 3600
unfolding seconds_at
an_hour_ahead = refl

-- up to the last minute that is asked for
half_an_hour_behind : seconds_at (fixed (neg_ℤ (pos 1800))) (nanos end_of_rules) ≡ neg_ℤ (pos 1800)
unfolding seconds_at
half_an_hour_behind = refl
