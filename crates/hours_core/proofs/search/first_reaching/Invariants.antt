use Rattle.std.proofs.Common.{◌≡◌, ℕ, ◌+◌, ◌-◌, ◌<◌, ◌≤◌, false, true, length, get_or, slice_get}
use Rattle.std.proofs.Common.{IsSome}
use Rattle.hours_core.specs.Counted.{HaveOneCount, reads_of, spans_in}
use Rattle.hours_core.specs.Probes.{reaches, halvings, at_least}
use Rattle.hours_core.specs.declared.spans.Span.{Span}
use Rattle.hours_core.proofs.SearchLemmas.{Bounded}
use Rattle.hours_core.proofs.search.first_reaching.Given as goal

-- no span before `low` reaches the mark, and the one at `high` does
abbrev pub invariant-loop-low : goal.invariant-loop-low
invariant-loop-low l = record {
  one : HaveOneCount l.spans l.initial.spans;
  same : spans_in l.spans ≡ spans_in l.initial.spans;
  ordered : l.low ≤ l.high;
  inside : l.high ≤ length (spans_in l.spans);
  within : l.high ≤ length (spans_in l.initial.spans);
  below : (k : ℕ) (d : Span) → k + 1 ≡ l.low
      → reaches l.mark (get_or (spans_in l.initial.spans) k d) ≡ false;
  above : (d : Span) → l.high < length (spans_in l.initial.spans)
      → reaches l.mark (get_or (spans_in l.initial.spans) l.high d) ≡ true;
  found : l.found ≡ slice_get (spans_in l.initial.spans) l.high;
  most : Bounded (reads_of l.spans) (l.high - l.low)
      (reads_of l.initial.spans + halvings (length (spans_in l.initial.spans)));
  kept : reads_of l.initial.spans ≤ reads_of l.spans;
  found_counts : IsSome l.found → at_least (reads_of l.initial.spans) 1 ≤ reads_of l.spans;
  some : l.high - l.low < length (spans_in l.initial.spans)
      → at_least (reads_of l.initial.spans) 1 ≤ reads_of l.spans;
}

abbrev pub decreases-loop-low : goal.decreases-loop-low
decreases-loop-low l = l.high - l.low
