-- The days of a year.
use Rattle.std.proofs.Common.{◌≡◌, ℕ, suc, ◌+◌, ◌-◌, ◌≤◌, ℤ, pos, ◌+ℤ◌, ◌-ℤ◌, refl, ap, ◌∙◌}
use Rattle.std.proofs.Common.{arith, unsigned_abs, to_z, of_z}
use Rattle.std.specs.Int.{w16}
use Rattle.std.proofs.lemmas.Int.{ints}
use Rattle.jiff_core.specs.Calendar.{days_from_civil, days_in_year, day_count, days_of_years}
use Rattle.jiff_core.specs.Calendar.{days_of_months}
use Rattle.jiff_core.proofs.CalendarLemmas.{days_from_civil-day_count, day_of_year_bound}
use Rattle.jiff_core.proofs.DateLemmas.{civil}
use Rattle.jiff_tz.specs.Year.{year_of_day}
use Rattle.jiff.specs.Types.{Date}
use Rattle.jiff.specs.Words.{epoch_day, ordinal}
use Rattle.jiff.proofs.SpanFacts.{signed_arith}
use Rattle.days.proofs.DayLemmas.{nonneg_abs}
use Rattle.zone_rules.proofs.RuleLemmas.{year_is}

days_of_years-next : (n : ℕ)
    → days_of_years (suc n) ≡ days_of_years n + days_in_year (pos n -ℤ pos 10000)
unfolding days_of_years
days_of_years-next n = refl

-- the day and each later one up to the year's last are of the date's year
pub year_of_date : (d : Date) (day other : ℕ) → epoch_day d ≡ pos day → day ≤ other
    → other + ordinal d ≤ day + days_in_year d.year → year_of_day (pos other) ≡ d.year
unfolding day_count
year_of_date d day other e low high =
    let date = civil d in
    let year_in = date.0 in
    let place = day_of_year_bound d.year d.month d.day date in
    let count = days_from_civil-day_count d.year d.month d.day in
    let is_day : epoch_day d ≡ days_from_civil d.year d.month d.day = refl in
    let years : ℕ = unsigned_abs (d.year +ℤ pos 10000) in
    let shifted = nonneg_abs (d.year +ℤ pos 10000) (omega (arith, signed_arith)) in
    let this_year : pos years -ℤ pos 10000 ≡ d.year = omega (arith, signed_arith) in
    let step = days_of_years-next years in
    let next : days_in_year (pos years -ℤ pos 10000) ≡ days_in_year d.year =
    ap days_in_year this_year in
    let of_year : ordinal d ≡ days_of_months d.year (d.month - 1) + d.day = refl in
    let of_count : day_count d.year d.month d.day ≡ days_of_years years + (ordinal d - 1) =
    refl in
    year_is years (pos other) (omega (arith, signed_arith)) (omega (arith, signed_arith))
    (omega (arith, signed_arith))
    ∙ this_year

-- a day has its place in the year
pub place_in_year : (d : Date) → (1 ≤ ordinal d) × (ordinal d ≤ days_in_year d.year)
place_in_year d =
    let date = civil d in
    let day_in = date.2 in
    let place = day_of_year_bound d.year d.month d.day date in
    (omega arith, omega arith)

-- what is left of a year, as it is counted
pub left_in_year : (total place : ℤ) (n k : ℕ) → total ≡ pos n → place ≡ pos k → 1 ≤ k → k ≤ n
    → n ≤ 366
    → to_z w16 (of_z w16 (to_z w16 (of_z w16 total) -ℤ to_z w16 (of_z w16 place))) ≡ pos (n - k)
left_in_year total place n k e f first last most = omega (arith, ints)
