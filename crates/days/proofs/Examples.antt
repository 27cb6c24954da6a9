-- Examples of the definitions: dates at the ends of months and years, leap years among them, and
-- the numbers of days.
use Rattle.std.specs.Prelude.{◌≡◌, refl, true, false, pos}
use Rattle.jiff_core.specs.Calendar.{days_from_civil, day_count, days_of_years, days_of_months}
use Rattle.days.specs.Dates.{date_of_day, day_number, first_day_of, is_date}

-- Dates.antt: the date of a day

day_0 : date_of_day 0 ≡ (1970, 1, 1)
unfolding date_of_day
day_0 = refl

last_day_of_january : date_of_day 30 ≡ (1970, 1, 31)
unfolding date_of_day
last_day_of_january = refl

first_day_of_february : date_of_day 31 ≡ (1970, 2, 1)
unfolding date_of_day
first_day_of_february = refl

no_29_february_in_1970 : date_of_day 59 ≡ (1970, 3, 1)
unfolding date_of_day
no_29_february_in_1970 = refl

last_day_of_1970 : date_of_day 364 ≡ (1970, 12, 31)
unfolding date_of_day
last_day_of_1970 = refl

first_day_of_1971 : date_of_day 365 ≡ (1971, 1, 1)
unfolding date_of_day
first_day_of_1971 = refl

-- two years, January and 28 days
leap_day_of_1972 : date_of_day 789 ≡ (1972, 2, 29)
unfolding date_of_day
leap_day_of_1972 = refl

-- thirty years with seven leap days
first_day_of_2000 : date_of_day 10957 ≡ (2000, 1, 1)
unfolding date_of_day
first_day_of_2000 = refl

leap_day_of_2000 : date_of_day 11016 ≡ (2000, 2, 29)
unfolding date_of_day
leap_day_of_2000 = refl

last_day_of_2099 : date_of_day 47481 ≡ (2099, 12, 31)
unfolding date_of_day
last_day_of_2099 = refl

-- Dates.antt: which days there are

first_date : is_date 2000 1 1 ≡ true
first_date = refl

day_before_the_first : is_date 1999 12 31 ≡ false
day_before_the_first = refl

last_date : is_date 2099 12 31 ≡ true
last_date = refl

day_after_the_last : is_date 2100 1 1 ≡ false
day_after_the_last = refl

leap_day_of_a_fourth_year : is_date 2024 2 29 ≡ true
leap_day_of_a_fourth_year = refl

leap_day_of_a_fourth_century : is_date 2000 2 29 ≡ true
leap_day_of_a_fourth_century = refl

no_leap_day : is_date 2026 2 29 ≡ false
no_leap_day = refl

month_of_30_days : is_date 2026 4 30 ≡ true
month_of_30_days = refl

april_has_no_31 : is_date 2026 4 31 ≡ false
april_has_no_31 = refl

december_has_31 : is_date 2026 12 31 ≡ true
december_has_31 = refl

no_day_0 : is_date 2026 3 0 ≡ false
no_day_0 = refl

no_month_0 : is_date 2026 0 1 ≡ false
no_month_0 = refl

no_month_13 : is_date 2026 13 1 ≡ false
no_month_13 = refl

-- Dates.antt: numbers of days

number_of_the_first_date : day_number 2000 1 1 ≡ 10957
unfolding days_from_civil day_count days_of_years days_of_months
number_of_the_first_date = refl

-- 26 years of 365 days, seven leap days, 31, 28 and 8 days later
number_of_9_march_2026 : day_number 2026 3 9 ≡ 20521
unfolding days_from_civil day_count days_of_years days_of_months
number_of_9_march_2026 = refl

number_of_the_last_date : day_number 2099 12 31 ≡ 47481
unfolding days_from_civil day_count days_of_years days_of_months
number_of_the_last_date = refl

no_date_has_number_0 : day_number 2026 2 29 ≡ 0
no_date_has_number_0 = refl

first_day_of_the_first_year : first_day_of (pos 2000) ≡ 10957
unfolding first_day_of days_from_civil day_count days_of_years days_of_months
first_day_of_the_first_year = refl

first_day_after_a_leap_year : first_day_of (pos 2025) ≡ 20089
unfolding first_day_of days_from_civil day_count days_of_years days_of_months
first_day_after_a_leap_year = refl

first_day_after_the_years : first_day_of (pos 2100) ≡ 47482
unfolding first_day_of days_from_civil day_count days_of_years days_of_months
first_day_after_the_years = refl
