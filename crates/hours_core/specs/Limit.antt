-- When the time that a level allows for is over.
use Rattle.std.specs.Prelude.{ℕ, ◌+◌, Bool, true, false, not, ◌&&◌, nat_le, if◌then◌else◌, List}
use Rattle.std.specs.Prelude.{Option, Some, None, option_and_then}
use Rattle.hours_core.specs.Counting.{first_of, add_of}
use Rattle.hours_core.specs.Moment.{end_minute}
use Rattle.hours_core.specs.Pauses.{is_paused}
use Rattle.hours_core.specs.declared.level.Level.{Level}
use Rattle.hours_core.specs.declared.level.Limit.{Limit}
use Rattle.hours_core.specs.declared.level.Limit.TheVariants.{RealMinutes, BusinessMinutes}
use Rattle.hours_core.specs.declared.stay.Stay.{Stay}

-- the time begins with the event itself, or with the first open minute from there on
abbrev pub begin_of : (ℕ → Bool) → Bool → ℕ → Option ℕ
begin_of opens true event = Some event
begin_of opens false event = first_of opens event

abbrev pub minutes_of : Limit → ℕ
minutes_of (RealMinutes n) = n
minutes_of (BusinessMinutes n) = n

-- the minutes that a limit is of: real minutes are all minutes, business minutes the open ones
abbrev pub kind_of : Limit → (ℕ → Bool) → ℕ → Bool
kind_of (RealMinutes n) opens m = true
kind_of (BusinessMinutes n) opens m = opens m

-- a minute counts: it is of the limit's kind, and not paused
abbrev pub counts : (ℕ → Bool) → (ℕ → Bool) → ℕ → Bool
counts kind paused m = kind m && not (paused m)

-- the first minute, up to the end of all moments, before which the limit's minutes have passed,
-- where a minute that is paused doesn't count
abbrev pub end_of : (ℕ → Bool) → (ℕ → Bool) → Limit → ℕ → Option ℕ
end_of opens paused limit begin =
    add_of (counts (kind_of limit opens) paused) begin (minutes_of limit)

-- when a limit on what follows an event is due
abbrev pub limit_due : (ℕ → Bool) → Level → List Stay → ℕ → Limit → Option ℕ
limit_due opens level stays event limit =
    option_and_then (end_of opens (is_paused level.ignore stays) limit)
    (begin_of opens level.start_immediately event)

-- so many minutes on, up to the end of all moments
abbrev pub minutes_after : ℕ → ℕ → Option ℕ
minutes_after n begin = if nat_le (begin + n) end_minute then Some (begin + n) else None

-- the end of a limit where no minute is paused
abbrev pub plain_end : (ℕ → Bool) → Limit → ℕ → Option ℕ
plain_end opens (RealMinutes n) begin = minutes_after n begin
plain_end opens (BusinessMinutes n) begin = add_of opens begin n

-- when a limit on what follows an event is due, where no minute is paused
abbrev pub plain_due : (ℕ → Bool) → Bool → ℕ → Limit → Option ℕ
plain_due opens starts_immediately event limit =
    option_and_then (plain_end opens limit) (begin_of opens starts_immediately event)
