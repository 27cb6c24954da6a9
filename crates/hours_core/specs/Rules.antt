-- Zones by a rule: what its text says becomes a first offset and changes.
use Rattle.std.specs.Prelude.{◌≡◌, ◌≢◌, ℕ, zero, suc, ◌+◌, ◌-◌, ◌*◌, ◌/◌, ◌<◌, ◌≤◌, Bool}
use Rattle.std.specs.Prelude.{not, ◌&&◌, List, [], ◌∷◌, ◌++◌, length, max, min, nat_lt, ℤ, pos}
use Rattle.std.specs.Prelude.{◌+ℤ◌, ◌*ℤ◌, if◌then◌else◌, Option, Some, None, Result, Ok, Err}
use Rattle.std.specs.Int.RustNames.{int_div}
use Rattle.std.specs.Ordering.{int_eq}
use Rattle.jiff.specs.Placed.{IsPosixZone}
use Rattle.jiff.specs.Words.{read_whole, offset_at as jiff_offset}
use Rattle.days.specs.Dates.{first_day_of}
use Rattle.zone_rules.specs.Rule.{TimeZone, TzText, nanos, seconds_at}
use Rattle.hours_core.specs.Hours.{are_years}
use Rattle.hours_core.specs.Moment.{first_minute, end_minute}
use Rattle.hours_core.specs.Zone.{Offsets, is_offset, offset_at}
use Rattle.hours_core.specs.declared.fault.HoursFault.{HoursFault}
use Rattle.hours_core.specs.declared.fault.HoursFault.TheVariants.{BadYears, BadRule, BadOffset}
use Rattle.hours_core.specs.declared.fault.HoursFault.TheVariants.{TooManyChanges, NoMemory}

-- the seconds by which local time is ahead of UTC at a minute
abbrev pub seconds_of : TzText → ℕ → ℤ
seconds_of rule m = seconds_at rule (nanos m)

abbrev pub to_minutes : ℤ → ℤ
to_minutes seconds = int_div seconds (pos 60)

-- the seconds are whole minutes, and less than a day
abbrev pub are_minutes : ℤ → Bool
are_minutes seconds =
    int_eq (to_minutes seconds *ℤ pos 60) seconds && is_offset (to_minutes seconds)

-- so they are at a minute and at each of so many after it
unfoldable pub are_offsets : (ℕ → ℤ) → ℕ → ℕ → Bool
are_offsets seconds first zero = are_minutes (seconds first)
are_offsets seconds first (suc n) =
    are_offsets seconds first n && are_minutes (seconds (suc (first + n)))

-- the change at the next minute, where its offset is another than that of this one
abbrev pub change_after : (ℕ → ℤ) → ℕ → List (ℤ × ℤ)
change_after offset m =
    if int_eq (offset (suc m)) (offset m) then [] else (pos (suc m), offset (suc m)) ∷ []

-- the changes after a minute, at so many that come after it
unfoldable pub changes_of : (ℕ → ℤ) → ℕ → ℕ → List (ℤ × ℤ)
changes_of offset first zero = []
changes_of offset first (suc n) =
    changes_of offset first n ++ change_after offset (first + n)

-- the zone of the offsets at a minute and at so many after it, or its least fault
unfoldable pub zone_in : (ℕ → ℤ) → ℕ → ℕ → Result Offsets HoursFault
zone_in seconds first n =
    let changes : List (ℤ × ℤ) = changes_of (λ m. to_minutes (seconds m)) first n in
    if not (are_offsets seconds first n) then Err BadOffset
    else (if nat_lt 400 (length changes) then Err TooManyChanges
    else Ok (record { first = to_minutes (seconds first); changes = changes }))

-- the first minute of the day before the years, and no minute before the first moment
abbrev pub first_asked : ℤ × ℤ → ℕ
first_asked years = max first_minute ((first_day_of years.0 - 1) * 1440)

-- the end of the day after the years, and no minute from the end of all moments on
abbrev pub end_asked : ℤ × ℤ → ℕ
end_asked years = min end_minute ((first_day_of (years.1 +ℤ pos 1) + 1) * 1440)

-- the zone that a rule has in these years and on the days just before and after them
abbrev pub zone_by : Option TzText → ℤ × ℤ → Result Offsets HoursFault
zone_by None years = Err BadRule
zone_by (Some rule) years =
    zone_in (seconds_of rule) (first_asked years) (end_asked years - suc (first_asked years))

-- the zone of a text and years, or their least fault
abbrev pub zone_by_rule : List ℕ → ℤ × ℤ → Result Offsets HoursFault
zone_by_rule text years =
    if not (are_years years) then Err BadYears else zone_by (read_whole text) years

-- the zone of the offsets that a zone of jiff has in these years and on the days just before and
-- after them, or their least fault
abbrev pub zone_like : TimeZone → ℤ × ℤ → Result Offsets HoursFault
zone_like zone years =
    if not (are_years years) then Err BadYears
    else zone_in (λ m. jiff_offset zone (nanos m)) (first_asked years)
    (end_asked years - suc (first_asked years))

-- what is answered for a text, but for want of memory, is that of the zone that jiff reads it as
abbrev pub FollowsJiff : List ℕ → ℤ × ℤ → Result Offsets HoursFault → Type 0
FollowsJiff text years answer =
    (zone : TimeZone) → IsPosixZone text zone → answer ≢ Err NoMemory
    → answer ≡ zone_like zone years

-- a moment whose day, in UTC, lies in the years, or is the day just before or after them
abbrev pub IsAsked : ℤ × ℤ → ℕ → Type 0
IsAsked years m =
    (first_minute ≤ m) × (m < end_minute) × (first_day_of years.0 ≤ m / 1440 + 1)
    × (m / 1440 ≤ first_day_of (years.1 +ℤ pos 1))

-- at each moment that is asked for, the offset is the one of the zone that jiff reads the text as
abbrev pub FollowsRule : List ℕ → ℤ × ℤ → Offsets → Type 0
FollowsRule text years offsets =
    (zone : TimeZone) → IsPosixZone text zone → (m : ℕ) → IsAsked years m
    → offset_at offsets.first offsets.changes m *ℤ pos 60 ≡ jiff_offset zone (nanos m)
