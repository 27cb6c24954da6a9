-- Moments: whole minutes since 1970-01-01 00:00 UTC, within the years 2000 to 2099.
use Rattle.std.specs.Prelude.{ℕ, Bool, ◌&&◌, ◌≤◌, nat_le, nat_lt}

-- 2000-01-01 00:00
abbrev pub first_minute : ℕ
first_minute = 15778080

-- 2100-01-01 00:00
abbrev pub end_minute : ℕ
end_minute = 68374080

-- a minute at which something may happen
abbrev pub is_moment : ℕ → Bool
is_moment n = nat_le first_minute n && nat_lt n end_minute

-- a minute at which something may be due: a moment, or the end of the last
abbrev pub is_due_moment : ℕ → Bool
is_due_moment n = nat_le first_minute n && nat_le n end_minute

-- the same, as a fact
abbrev pub IsDueMoment : ℕ → Type 0
IsDueMoment n = (first_minute ≤ n) × (n ≤ end_minute)
