-- The date and the text of a minute, both in UTC.
use Rattle.std.specs.Prelude.{ℕ, ◌+◌, ◌/◌, ◌%◌, List, [], ◌∷◌, ◌++◌, codes}
pub use Rattle.days.specs.Dates.{date_of_day, IsDateOfDay}

-- the date of a minute: that of its day
abbrev pub date_of_minute : ℕ → ℕ × ℕ × ℕ
date_of_minute m = date_of_day (m / 1440)

-- the last decimal digit
abbrev pub digit_of : ℕ → ℕ
digit_of n = 48 + n % 10

abbrev pub two_digits : ℕ → List ℕ
two_digits n = digit_of (n / 10) ∷ digit_of n ∷ []

abbrev pub four_digits : ℕ → List ℕ
four_digits n = digit_of (n / 1000) ∷ digit_of (n / 100) ∷ two_digits n

-- YYYY-MM-DD
abbrev pub text_of_date : ℕ × ℕ × ℕ → List ℕ
text_of_date (year, month, day) =
    four_digits year ++ (codes "-" ++ (two_digits month ++ (codes "-" ++ two_digits day)))

-- HH:MM
abbrev pub text_of_time : ℕ → List ℕ
text_of_time m = two_digits (m % 1440 / 60) ++ (codes ":" ++ two_digits (m % 60))

-- YYYY-MM-DD HH:MM
abbrev pub text_of_minute : ℕ → List ℕ
text_of_minute m = text_of_date (date_of_minute m) ++ (codes " " ++ text_of_time m)
