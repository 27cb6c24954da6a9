-- The day number of a date, and the date of a day number.
use Rattle.std.proofs.Common.{◌≡◌, Bool, true, false, ◌==◌, ◌||◌, nat_lt}
use Rattle.std.proofs.Common.{if◌then◌else◌, rules, ℕ, zero, suc, ◌+◌, ◌<◌, ◌≤◌, ℤ}
use Rattle.std.proofs.Common.{pos, negsuc, ◌<ℤ◌, ◌≤ℤ◌, inl, refl, sym, ap, ◌∙◌, arith}
use Rattle.std.proofs.lemmas.Bool.{ltb-true, ltb-false}
use Rattle.jiff.specs.Types.{Date}
use Rattle.jiff.specs.Words.{epoch_day, days_in_month, IsYmd, IsYear, is_leap_year}
use Rattle.jiff.proofs.Family.{epoch_day-lt, epoch_day_injective}
use Rattle.jiff.proofs.Family.{days_from_civil-day, days_from_civil-next_month}
use Rattle.jiff.proofs.Family.{days_from_civil-next_year, days_from_civil-max}
use Rattle.jiff.proofs.OnLiterals.{jiff_on_literals}
use Rattle.jiff.proofs.SpanFacts.{signed_arith}
use Rattle.days.specs.Dates.{date_of_day, next_date, IsDateOfDay}

-- day 0
pub epoch_day-first : (d : Date) → IsYmd (pos 1970) (pos 1) (pos 1) d → epoch_day d ≡ pos 0
unfolding jiff_on_literals
epoch_day-first d h =
    let month : d.month ≡ 1 = cc in
    let day : d.day ≡ 1 = cc in
    rw (h.0, month, day) refl

early : (y : ℤ) (first d : Date) → d.year ≡ y → IsYmd (pos 1970) (pos 1) (pos 1) first
    → pos 0 ≤ℤ epoch_day d → pos 0 ≤ℤ y
early (pos n) first d e h low = omega (arith, signed_arith)
early (negsuc n) first d e h low =
    let before : d.year <ℤ first.year = rw (e, h.0) (omega (arith, signed_arith)) in
    let less : epoch_day d <ℤ epoch_day first = epoch_day-lt d first (inl before) in
    let z = epoch_day-first first h in
    absurd (omega (arith, signed_arith, rw z at less, low))

-- no day from day 0 on is before the year 0
pub year_from_first : (first d : Date) → IsYmd (pos 1970) (pos 1) (pos 1) first
    → pos 0 ≤ℤ epoch_day d → pos 0 ≤ℤ d.year
year_from_first first d h low = early d.year first d refl h low

at_least_28 : (b c e : Bool) → 28 ≤ (if b then (if c then 29 else 28) else (if e then 30 else 31))
at_least_28 true true e = omega arith
at_least_28 true false e = omega arith
at_least_28 false c true = omega arith
at_least_28 false c false = omega arith

month_is_long : (y : ℤ) (m : ℕ) → 28 ≤ days_in_month y m
month_is_long y m =
    at_least_28 (m == 2) (is_leap_year y) ((m == 4) || (m == 6) || (m == 9) || (m == 11))

-- the day after, within a month
next_day : (n y m k : ℕ) (d : Date) → d.year ≡ pos y → d.month ≡ m → d.day ≡ k → epoch_day d ≡ pos n
    → k < days_in_month (pos y) m → IsDateOfDay (suc n) (y, m, k + 1)
next_day n y m k d year month day number within =
    let inside : d.day < days_in_month d.year d.month = rw (year, month, day) within in
    let moved = days_from_civil-day d.year d.month d.day (d.day + 1) d.day_in.0 (omega arith) in
    let bounds : (1 ≤ d.day + 1) × (d.day + 1 ≤ days_in_month d.year d.month) =
    (omega arith, omega arith) in (
      record d { day = d.day + 1; day_in = bounds },
      year,
      month,
      ap (λ x. x + 1) day,
      omega (arith, signed_arith, moved),
    )

-- the day after the last of a month, within a year
next_month : (n y m k : ℕ) (d : Date) → d.year ≡ pos y → d.month ≡ m → d.day ≡ k
    → epoch_day d ≡ pos n
    → days_in_month (pos y) m ≤ k → m < 12 → IsDateOfDay (suc n) (y, m + 1, 1)
next_month n y m k d year month day number last within =
    let reached : days_in_month d.year d.month ≤ d.day = rw (year, month, day) last in
    let full : d.day ≡ days_in_month d.year d.month = omega (arith, d.day_in) in
    let moved = days_from_civil-next_month d.year d.month d.day d.month_in.0 full in
    let bounds : (1 ≤ d.month + 1) × (d.month + 1 ≤ 12) = (omega arith, omega arith) in
    let first : (1 ≤ 1) × (1 ≤ days_in_month d.year (d.month + 1)) =
    (omega arith, omega (arith, month_is_long d.year (d.month + 1))) in (
      record {
        year = d.year;
        month = d.month + 1;
        day = 1;
        year_in = d.year_in;
        month_in = bounds;
        day_in = first;
      },
      year,
      ap (λ x. x + 1) month,
      refl,
      omega (arith, signed_arith, moved),
    )

last_is_far : (d : Date) → d.year ≡ pos 9999 → d.month ≡ 12 → d.day ≡ 31 → epoch_day d ≡ pos 2932896
last_is_far d year month day = rw (year, month, day) days_from_civil-max

-- the day after the last of a year
next_year : (n y m k : ℕ) (d : Date) → d.year ≡ pos y → d.month ≡ m → d.day ≡ k
    → epoch_day d ≡ pos n → n < 60000
    → days_in_month (pos y) m ≤ k → 12 ≤ m → IsDateOfDay (suc n) (y + 1, 1, 1)
next_year n y m k d year month day number small last ends =
    let december : d.month ≡ 12 = omega (arith, d.month_in) in
    let reached : days_in_month d.year d.month ≤ d.day = rw (year, month, day) last in
    let full : d.day ≡ days_in_month d.year d.month = omega (arith, d.day_in) in
    let thirty_one : d.day ≡ 31 = full ∙ ap (days_in_month d.year) december in
    let before : ¬ (d.year ≡ pos 9999) = λ e. let far = last_is_far d e december thirty_one in
    omega (arith, signed_arith) in
    let year_in : IsYear (pos (y + 1)) =
    (omega (arith, signed_arith), omega (arith, signed_arith, d.year_in)) in
    let moved = days_from_civil-next_year d.year (pos (y + 1))
    (omega (arith, signed_arith, d.year_in)) (omega (arith, signed_arith)) in
    let at_end = rw (december, thirty_one) at number in
    let month_in : (1 ≤ 1) × (1 ≤ 12) = (omega arith, omega arith) in
    let first : (1 ≤ 1) × (1 ≤ days_in_month (pos (y + 1)) 1) =
    (omega arith, omega (arith, month_is_long (pos (y + 1)) 1)) in (
      record {
        year = pos (y + 1);
        month = 1;
        day = 1;
        year_in = year_in;
        month_in = month_in;
        day_in = first;
      },
      refl,
      refl,
      refl,
      omega (arith, signed_arith, moved, at_end),
    )

by_tests : (n : ℕ) (r : ℕ × ℕ × ℕ) (a b : Bool) → nat_lt r.2 (days_in_month (pos r.0) r.1) ≡ a
    → nat_lt r.1 12 ≡ b → n < 60000 → IsDateOfDay n r
    → IsDateOfDay (suc n)
    (if a then (r.0, r.1, r.2 + 1) else (if b then (r.0, r.1 + 1, 1) else (r.0 + 1, 1, 1)))
by_tests n r true b e f small h = next_day n r.0 r.1 r.2 h.0 h.1 h.2 h.3 h.4 (ltb-true _ _ e)
by_tests n r false true e f small h =
    next_month n r.0 r.1 r.2 h.0 h.1 h.2 h.3 h.4 (ltb-false _ _ e) (ltb-true _ _ f)
by_tests n r false false e f small h =
    next_year n r.0 r.1 r.2 h.0 h.1 h.2 h.3 h.4 small (ltb-false _ _ e) (ltb-false _ _ f)

next_is : (n : ℕ) (r : ℕ × ℕ × ℕ) → n < 60000 → IsDateOfDay n r → IsDateOfDay (suc n) (next_date r)
next_is n r small h = by_tests n r _ _ refl refl small h

first_is : IsDateOfDay 0 (1970, 1, 1)
unfolding jiff_on_literals
first_is =
    let year_in : IsYear (pos 1970) = search rules in
    let month_in : (1 ≤ 1) × (1 ≤ 12) = (omega arith, omega arith) in
    let day_in : (1 ≤ 1) × (1 ≤ days_in_month (pos 1970) 1) = (omega arith, omega arith) in (
      record {
        year = pos 1970;
        month = 1;
        day = 1;
        year_in = year_in;
        month_in = month_in;
        day_in = day_in;
      },
      refl,
      refl,
      refl,
      refl,
    )

-- the days counted from the first are those of the calendar
pub counted : (n : ℕ) → n ≤ 60000 → IsDateOfDay n (date_of_day n)
unfolding date_of_day
counted zero small = first_is
counted (suc n) small = next_is n (date_of_day n) (omega arith) (counted n (omega arith))

same_parts : (a b : Date) (r s : ℕ × ℕ × ℕ) → a.year ≡ pos r.0 → a.month ≡ r.1 → a.day ≡ r.2
    → b.year ≡ pos s.0 → b.month ≡ s.1 → b.day ≡ s.2
    → epoch_day a ≡ epoch_day b → r ≡ s
same_parts a b r s ay am ad by bm bd e =
    let same = epoch_day_injective a b e in
    let years : r.0 ≡ s.0 = omega (arith, signed_arith, same.0) in
    let months : r.1 ≡ s.1 = cc in
    let days : r.2 ≡ s.2 = cc in
    let out : r ≡ (s.0, s.1, s.2) = rw (← years, ← months, ← days) refl in
    out

-- a date of the calendar with a day number is the one that is counted
pub only : (n : ℕ) (r : ℕ × ℕ × ℕ) → n ≤ 60000 → IsDateOfDay n r → r ≡ date_of_day n
only n r small h =
    let c = counted n small in
    same_parts h.0 c.0 r (date_of_day n) h.1 h.2 h.3 c.1 c.2 c.3 (h.4 ∙ sym c.4)
