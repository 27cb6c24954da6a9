-- Spans that are lent with the count of their reads: the words by which searches speak of them.
use Rattle.std.specs.Prelude.{◌≡◌, ℕ, List}
use Rattle.hours_core.specs.declared.spans.CountedSpans.{CountedSpans}
use Rattle.hours_core.specs.declared.spans.Span.{Span}

-- the spans
abbrev pub spans_in : CountedSpans → List Span
spans_in counted = counted.spans.now

-- how many reads were counted
abbrev pub reads_of : CountedSpans → ℕ
reads_of counted = counted.probes.now

-- both add to one count
abbrev pub HaveOneCount : CountedSpans → CountedSpans → Type 0
HaveOneCount a b = a.probes.ghost_name ≡ b.probes.ghost_name
