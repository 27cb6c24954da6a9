-- The number of a day, and on which day a year begins.
use Rattle.std.proofs.Common.{◌≡◌, ℕ, ◌+◌, ◌-◌, ◌*◌, ◌<◌, ◌≤◌, ℤ, pos, negsuc, ◌*ℤ◌, ◌+ℤ◌, ◌-ℤ◌}
use Rattle.std.proofs.Common.{◌<ℤ◌, ◌≤ℤ◌, inl, refl, ap, ◌∙◌, arith, unsigned_abs}
use Rattle.std.proofs.lemmas.Int.{ints, by_lt_z}
use Rattle.std.specs.Int.RustNames.{int_div}
use Rattle.jiff_core.specs.Calendar.{days_from_civil, day_count, days_of_years, days_of_months}
use Rattle.jiff_core.specs.Calendar.{IsCivilDate}
use Rattle.jiff_core.proofs.CalendarLemmas.{days_from_civil-day_count, day_count-lt_year}
use Rattle.jiff_core.proofs.CalendarLemmas.{days_in_month_bounds}
use Rattle.jiff_core.proofs.DateLemmas.{civil}
use Rattle.jiff.specs.Types.{Date}
use Rattle.jiff.specs.Words.{epoch_day, IsYmd}
use Rattle.jiff.proofs.Family.{epoch_day-lt, epoch_day_range}
use Rattle.jiff.proofs.OnLiterals.{jiff_on_literals}
use Rattle.jiff.proofs.SpanFacts.{signed_arith}
use Rattle.days.specs.Dates.{date_of_day, first_day_of}
use Rattle.days.proofs.DateLemmas.{counted, epoch_day-first}

hours_in : (n : ℕ) → int_div (pos n *ℤ pos 86400000000000) (pos 3600000000000) ≡ pos (n * 24)
hours_in n = ap pos (omega arith)

hours_of : (e first : ℤ) → first ≡ pos 0 → pos 0 ≤ℤ e
    → int_div ((e -ℤ first) *ℤ pos 86400000000000) (pos 3600000000000)
    ≡ pos (unsigned_abs e * 24)
hours_of (pos n) first h low =
    let same : (pos n -ℤ first) ≡ pos n = omega (arith, signed_arith) in
    rw same (hours_in n)
hours_of (negsuc n) first h low = absurd (omega (arith, signed_arith))

-- no day of a later year is before day 0
from_first : (first d : Date) → IsYmd (pos 1970) (pos 1) (pos 1) first → pos 2000 ≤ℤ d.year
    → pos 0 ≤ℤ epoch_day d
from_first first d h late =
    let before : first.year <ℤ d.year = rw h.0 (omega (arith, signed_arith)) in
    let less : epoch_day first <ℤ epoch_day d = epoch_day-lt first d (inl before) in
    omega (arith, signed_arith, epoch_day-first first h)

pub hours_since : (first d : Date) (nanos hours : ℤ)
    → IsYmd (pos 1970) (pos 1) (pos 1) first → pos 2000 ≤ℤ d.year
    → nanos ≡ (epoch_day d -ℤ epoch_day first) *ℤ pos 86400000000000
    → hours ≡ int_div nanos (pos 3600000000000)
    → hours ≡ pos (unsigned_abs (epoch_day d) * 24)
hours_since first d nanos hours h late e f =
    let low = from_first first d h late in
    let hours = hours_of (epoch_day d) (epoch_day first) (epoch_day-first first h) low in
    f ∙ ap (λ n. int_div n (pos 3600000000000)) e ∙ hours

small_abs : (e : ℤ) → pos 0 ≤ℤ e → e ≤ℤ pos 2932896 → unsigned_abs e ≤ 2932896
small_abs (pos n) low high = omega (arith, signed_arith)
small_abs (negsuc n) low high = absurd (omega (arith, signed_arith))

pub small_day : (first d : Date) → IsYmd (pos 1970) (pos 1) (pos 1) first → pos 2000 ≤ℤ d.year
    → unsigned_abs (epoch_day d) ≤ 2932896
small_day first d h late =
    small_abs (epoch_day d) (from_first first d h late) ((epoch_day_range d).1)

pub nonneg_abs : (z : ℤ) → pos 0 ≤ℤ z → pos (unsigned_abs z) ≡ z
nonneg_abs (pos n) h = refl
nonneg_abs (negsuc n) h = absurd (omega (arith, signed_arith))

first_of_year : (year : ℤ) → pos 1970 ≤ℤ year → year ≤ℤ pos 9999 → IsCivilDate year 1 1
first_of_year year low high =
    let long = (days_in_month_bounds year 1).1 in (
      (omega (arith, signed_arith), omega (arith, signed_arith)),
      (omega arith, omega arith),
      (omega arith, omega arith),
    )

day_zero : days_from_civil (pos 1970) 1 1 ≡ pos 0
unfolding jiff_on_literals
day_zero = refl

first_day_number : (year : ℤ) → pos 2000 ≤ℤ year → year ≤ℤ pos 9999
    → first_day_of year + 4_371_953 ≡ day_count year 1 1
unfolding first_day_of
first_day_number year low high =
    let start = days_from_civil-day_count (pos 1970) 1 1 in
    let zero = day_zero in
    let first = first_of_year (pos 1970) (omega (arith, signed_arith)) (omega (arith, signed_arith)) in
    let less = day_count-lt_year (pos 1970) 1 1 year 1 1 first (omega arith)
    (omega (arith, signed_arith)) in
    let count = days_from_civil-day_count year 1 1 in
    let positive = nonneg_abs (days_from_civil year 1 1) (omega (arith, signed_arith)) in
    omega (arith, signed_arith)

-- a later year begins later
pub first_days_rise : (a b : ℤ) → pos 2000 ≤ℤ a → a <ℤ b → b ≤ℤ pos 9999
    → first_day_of a < first_day_of b
first_days_rise a b low less high =
    let one = first_of_year a (omega (arith, signed_arith)) (omega (arith, signed_arith)) in
    let e = first_day_number a low (omega (arith, signed_arith)) in
    let f = first_day_number b (omega (arith, signed_arith)) high in
    let k = day_count-lt_year a 1 1 b 1 1 one (omega arith) less in
    omega arith

first_day-2000 : first_day_of (pos 2000) ≡ 10957
unfolding first_day_of jiff_on_literals
first_day-2000 = refl

first_day-2100 : first_day_of (pos 2100) ≡ 47482
unfolding first_day_of jiff_on_literals
first_day-2100 = refl

-- the years in which moments lie begin on these days
pub first_day_range : (year : ℤ) → pos 2000 ≤ℤ year → year ≤ℤ pos 2100
    → (10957 ≤ first_day_of year) × (first_day_of year ≤ 47482)
first_day_range year low high = (
  by_lt_z (pos 2000) year
      (λ after. let k = first_days_rise (pos 2000) year (omega (arith, signed_arith)) after (omega (arith, signed_arith)) in omega (arith, first_day-2000))
      (λ not. let same : year ≡ pos 2000 = omega (arith, ints) in rw same (omega (arith, first_day-2000))),
  by_lt_z year (pos 2100)
      (λ before. let k = first_days_rise year (pos 2100) (omega (arith, signed_arith)) before (omega (arith, signed_arith)) in omega (arith, first_day-2100))
      (λ not. let same : year ≡ pos 2100 = omega (arith, ints) in rw same (omega (arith, first_day-2100))),
)

-- a date is not before the first day of its year
within_year : (d : Date) → day_count d.year 1 1 ≤ day_count d.year d.month d.day
unfolding day_count days_of_months
within_year d =
    let years : ℕ = days_of_years (unsigned_abs (d.year +ℤ pos 10000)) in
    let first : day_count d.year 1 1 ≡ years + (0 + 1 - 1) = refl in
    let of_count : day_count d.year d.month d.day
    ≡ years + (days_of_months d.year (d.month - 1) + d.day - 1) =
    refl in
    omega arith

date_count : (d : Date) (n : ℕ) → epoch_day d ≡ pos n
    → n + 4_371_953 ≡ day_count d.year d.month d.day
date_count d n e =
    let count = days_from_civil-day_count d.year d.month d.day in
    let same : days_from_civil d.year d.month d.day ≡ pos n = e in
    omega (arith, signed_arith)

-- a date of the year or of a later one is not before the year's first day
from_first_day : (d : Date) (year : ℤ) (n : ℕ) → pos 2000 ≤ℤ year → year ≤ℤ pos 9999
    → epoch_day d ≡ pos n → year ≤ℤ d.year → first_day_of year ≤ n
from_first_day d year n low high e late =
    let count = date_count d n e in
    let first = first_day_number year low high in
    by_lt_z year d.year
    (λ later.
    let less = day_count-lt_year year 1 1 d.year d.month d.day (first_of_year year (omega (arith, signed_arith)) high)
    d.day_in.0 later in
    omega arith)
    (λ not.
    let same : year ≡ d.year = omega (arith, ints) in
    let within : day_count year 1 1 ≤ day_count d.year d.month d.day =
    rw (ap (λ y. day_count y 1 1) same) (within_year d) in
    omega arith)

-- a date of an earlier year is before the year's first day
before_first_day : (d : Date) (year : ℤ) (n : ℕ) → pos 2000 ≤ℤ year → year ≤ℤ pos 9999
    → epoch_day d ≡ pos n → d.year <ℤ year → n < first_day_of year
before_first_day d year n low high e early =
    let count = date_count d n e in
    let first = first_day_number year low high in
    let less = day_count-lt_year d.year d.month d.day year 1 1 (civil d) (omega arith) early in
    omega arith

-- the days before the first of a year are of earlier years
pub earlier_days : (year : ℤ) (n : ℕ) → pos 2000 ≤ℤ year → year ≤ℤ pos 2100 → n < first_day_of year
    → pos (date_of_day n).0 <ℤ year
earlier_days year n low high before =
    let small = (first_day_range year low high).1 in
    let (d, is_year, month, day, number) = counted n (omega arith) in
    by_lt_z (pos (date_of_day n).0) year
    (λ early. early)
    (λ late.
    let bound : year ≤ℤ d.year = rw is_year late in
    let least = from_first_day d year n low (omega (arith, ints)) number bound in
    absurd (omega arith))

-- those from it on are of the year or of later ones
pub later_days : (year : ℤ) (n : ℕ) → pos 2000 ≤ℤ year → year ≤ℤ pos 2100 → first_day_of year ≤ n
    → n ≤ 60000 → year ≤ℤ pos (date_of_day n).0
later_days year n low high from small =
    let (d, is_year, month, day, number) = counted n small in
    by_lt_z (pos (date_of_day n).0) year
    (λ early.
    let bound : d.year <ℤ year = rw is_year early in
    let most = before_first_day d year n low (omega (arith, ints)) number bound in
    absurd (omega arith))
    (λ late. late)
