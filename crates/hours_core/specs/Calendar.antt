-- What a calendar answers, whatever it keeps.
use Rattle.std.specs.Prelude.{◌≡◌, ℕ, Bool, List}
use Rattle.hours_core.specs.Hours.{Hours, is_open}
use Rattle.hours_core.specs.Runs.{AreRuns}
use Rattle.hours_core.specs.Spans.{is_held}
use Rattle.hours_core.specs.declared.calendar.Calendar.{Calendar}
use Rattle.hours_core.specs.declared.spans.Span.{Span}

-- the opening spans of the calendar
unfoldable pub spans_of : Calendar → List Span
spans_of c = c.spans

-- whether the calendar is open at a minute: a span holds it
unfoldable pub opens : Calendar → ℕ → Bool
opens c m = is_held c.spans m

-- the calendar has these opening hours
abbrev pub HasHours : Calendar → Hours → Type 0
HasHours c hours = (m : ℕ) → opens c m ≡ is_open hours m

-- the calendar has these opening hours, and its spans are the runs of their open minutes
abbrev pub KeepsHours : Hours → Calendar → Type 0
KeepsHours hours c = HasHours c hours × AreRuns (is_open hours) (spans_of c)
