-- The minutes that are open before a minute.
use Rattle.std.specs.Prelude.{◌≡◌, ℕ, ◌≤◌, ◌&&◌, List, nat_lt}
use Rattle.hours_core.specs.Hours.{Hours, is_open}
use Rattle.hours_core.specs.Moment.{first_minute}
use Rattle.hours_core.specs.Spans.{is_held, last_end}
use Rattle.hours_core.specs.declared.spans.Span.{Span}

-- the spans hold the minutes that are open before a minute, and end there at the latest
pub record HoldBefore (hours : Hours) (point : ℕ) (spans : List Span) : Type 0 where
  pub held : (m : ℕ) → is_held spans m ≡ (nat_lt m point && is_open hours m)
  pub last : last_end first_minute spans ≤ point
