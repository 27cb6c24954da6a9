-- Spans as the runs of open minutes.
use Rattle.std.specs.Prelude.{◌≡◌, ℕ, ◌+◌, ◌<◌, ◌≤◌, Bool, true, false, List}
use Rattle.std.specs.List.{All}
use Rattle.hours_core.specs.Counting.{count}
use Rattle.hours_core.specs.Moment.{first_minute}
use Rattle.hours_core.specs.Spans.{AreSpans, is_held}
use Rattle.hours_core.specs.declared.spans.Span.{Span}

-- the minutes of a span are open, those that touch it are not, and as many are open before it as it
-- says
pub record IsRun (opens : ℕ → Bool) (span : Span) : Type 0 where
  pub some : span.start < span.end
  pub inside : (m : ℕ) → span.start ≤ m → m < span.end → opens m ≡ true
  pub shut_before : (m : ℕ) → m + 1 ≡ span.start → opens m ≡ false
  pub shut_after : opens span.end ≡ false
  pub before : span.before ≡ count opens first_minute span.start

-- the spans are the runs of open minutes in order, and a minute is open where one of them holds it
pub record AreRuns (opens : ℕ → Bool) (spans : List Span) : Type 0 where
  pub order : AreSpans first_minute 0 spans
  pub each : All (IsRun opens) spans
  pub all : (m : ℕ) → opens m ≡ is_held spans m
