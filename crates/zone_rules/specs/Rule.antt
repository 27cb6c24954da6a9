-- The offset that the text of a rule gives at an instant.
use Rattle.std.specs.Prelude.{◌≡◌, ℕ, ℤ, pos, ◌*◌, ◌+ℤ◌, ◌-ℤ◌, ◌*ℤ◌, ◌<ℤ◌, ◌&&◌, ◌||◌, int_lt}
use Rattle.std.specs.Prelude.{Option, Some, None, List, [], if◌then◌else◌}
use Rattle.jiff.specs.Placed.{IsPosixZone}
use Rattle.jiff.specs.Words.{offset_at as jiff_offset}
use Rattle.jiff_core.specs.Timestamp.{nanos_of_seconds}
use Rattle.jiff_tz.specs.PosixRule.{match_some, rule_day, clamp_to, first_nanosecond}
use Rattle.jiff_tz.specs.PosixRule.{last_nanosecond, nanos_per_day, saturating_add, int_same}
use Rattle.jiff_tz.specs.PosixRule.{in_window}
pub use Rattle.jiff_tz.specs.PosixText.{TzText}
use Rattle.jiff_tz.specs.PosixText.{DstText, tz_view}
use Rattle.jiff_tz.specs.Year.{year_of_nanos}
use Rattle.jiff_tz.specs.declared.info.OffsetInfo.{OffsetInfo}
use Rattle.jiff_tz.specs.declared.posix.Day.{Day}
pub use Rattle.jiff_tz.specs.declared.timezone.TimeZone.{TimeZone}
use Rattle.jiff_tz.specs.declared.timezone.TimeZone.TheVariants.{Posix}

-- the last minute that is asked for: 2100-01-01 00:00
abbrev pub end_of_rules : ℕ
end_of_rules = 68374080

-- the minute's first second, as an instant
abbrev pub nanos : ℕ → ℤ
nanos m = pos (m * 60_000_000_000)

-- when a rule's day and time fall in the year, on a clock at UTC, for a clock that is so many
-- seconds ahead of it; a day that the year lacks is its end
abbrev pub moment_in : ℤ → Day × ℤ → ℤ → ℤ
moment_in year at seconds =
    match_some (rule_day year at.0) (last_nanosecond year) (λ day.
    clamp_to (first_nanosecond year) (last_nanosecond year)
    (day *ℤ nanos_per_day +ℤ nanos_of_seconds (at.1 -ℤ seconds)))

-- when summer time begins and ends in the year; it is all of the year where it begins as the year
-- does and its end, on the clock of standard time, leaves the year
abbrev pub summer_in : DstText → ℤ → ℤ → ℤ × ℤ
summer_in summer year standard =
    let start : ℤ = moment_in year summer.start standard in
    let end : ℤ = moment_in year summer.finish summer.seconds in
    let shifted : ℤ = saturating_add end (nanos_of_seconds standard) in
    if int_same start (first_nanosecond year)
    && (int_lt shifted (first_nanosecond year) || int_lt (last_nanosecond year) shifted)
    then (start, last_nanosecond year)
    else (start, end)

-- the seconds by which local time is ahead of UTC at an instant
unfoldable pub seconds_at : TzText → ℤ → ℤ
seconds_at rule n =
    match_some rule.dst rule.std_seconds (λ summer.
    if in_window (summer_in summer (year_of_nanos n) rule.std_seconds) n then summer.seconds
    else rule.std_seconds)

-- at every instant a rule says the offset of the zone that jiff reads its text as
abbrev pub GoesByJiff : List ℕ → TzText → Type 0
GoesByJiff text rule =
    (zone : TimeZone) → IsPosixZone text zone → (n : ℤ) → seconds_at rule n ≡ jiff_offset zone n

-- the zone is that of a rule
abbrev pub IsRule : TimeZone → Type 0
IsRule (Posix rule) = Unit {0}
IsRule zone = ⊥

-- what the text of a zone's rule says
abbrev pub text_of : TimeZone → TzText
text_of (Posix rule) = tz_view rule
text_of zone = record { std_name = []; std_seconds = pos 0; dst = None }

-- the transition, if there is one, comes after the instant
abbrev pub IsBefore : ℤ → Option (ℤ × OffsetInfo) → Type 0
IsBefore b None = Unit {0}
IsBefore b (Some t) = b <ℤ t.0
