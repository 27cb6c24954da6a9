-- Opening spans: runs of open minutes in order, each with the number of open minutes before it.
use Rattle.std.specs.Prelude.{◌≡◌, ℕ, ◌+◌, ◌-◌, ◌<◌, ◌≤◌, Bool, List, [], ◌∷◌, min}
use Rattle.std.specs.List.{list_any}
use Rattle.hours_core.specs.Hours.{is_within}
use Rattle.hours_core.specs.Moment.{end_minute}
use Rattle.hours_core.specs.declared.spans.Span.{Span}

-- a minute is in a span from its start to before its end
abbrev pub is_in : ℕ → Span → Bool
is_in m span = is_within m (span.start, span.end)

-- a span holds the minute
abbrev pub is_held : List Span → ℕ → Bool
is_held spans m = list_any (is_in m) spans

-- how many minutes a span has
abbrev pub length_of : Span → ℕ
length_of span = span.end - span.start

-- the spans begin at a minute or later, each with a gap after the one before, and each has the
-- number of minutes before it
abbrev pub AreSpans : ℕ → ℕ → List Span → Type 0
AreSpans earliest before [] = Unit {0}
AreSpans earliest before (span ∷ spans) =
    (earliest ≤ span.start) × (span.start < span.end) × (span.end ≤ end_minute)
    × (span.before ≡ before)
    × AreSpans (span.end + 1) (before + length_of span) spans

-- where the last span ends, or what was given
abbrev pub last_end : ℕ → List Span → ℕ
last_end given [] = given
last_end given (span ∷ spans) = last_end span.end spans

-- how many minutes before this one the spans hold
abbrev pub held_before : List Span → ℕ → ℕ
held_before [] m = 0
held_before (span ∷ spans) m = min m span.end - min m span.start + held_before spans m
