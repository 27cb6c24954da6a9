-- Days of the calendar: the date of a day, and the number of a date, where 1970-01-01 is day 0.
use Rattle.std.specs.Prelude.{◌≡◌, ℕ, zero, suc, ◌+◌, ℤ, pos, nat_le, nat_lt, unsigned_abs}
use Rattle.std.specs.Prelude.{Bool, ◌&&◌, if◌then◌else◌}
use Rattle.jiff.specs.Types.{Date}
use Rattle.jiff.specs.Words.{epoch_day, days_in_month}
use Rattle.jiff_core.specs.Calendar.{days_from_civil}

-- the year, month and day after these
abbrev pub next_date : ℕ × ℕ × ℕ → ℕ × ℕ × ℕ
next_date (year, month, day) =
    if nat_lt day (days_in_month (pos year) month) then (year, month, day + 1)
    else (if nat_lt month 12 then (year, month + 1, 1) else (year + 1, 1, 1))

-- the year, month and day that come so many days after 1970-01-01
unfoldable pub date_of_day : ℕ → ℕ × ℕ × ℕ
date_of_day zero = (1970, 1, 1)
date_of_day (suc n) = next_date (date_of_day n)

-- a year, month and day are those of the calendar's date with this day number, where 1970-01-01 is
-- day 0
abbrev pub IsDateOfDay : ℕ → ℕ × ℕ × ℕ → Type 0
IsDateOfDay n r =
    (d : Date) × (d.year ≡ pos r.0) × (d.month ≡ r.1) × (d.day ≡ r.2) × (epoch_day d ≡ pos n)

-- a day of 2000 to 2099
abbrev pub is_date : ℕ → ℕ → ℕ → Bool
is_date y m d =
    nat_le 2000 y && nat_le y 2099 && nat_le 1 m && nat_le m 12
    && nat_le 1 d && nat_le d (days_in_month (pos y) m)

-- the number of a day, where 1970-01-01 is day 0
abbrev pub day_number : ℕ → ℕ → ℕ → ℕ
day_number y m d = if is_date y m d then unsigned_abs (days_from_civil (pos y) m d) else 0

-- the number of the year's 1 January
unfoldable pub first_day_of : ℤ → ℕ
first_day_of year = unsigned_abs (days_from_civil year 1 1)
