-- What a search for a span looks for, and how many spans it may read.
use Rattle.std.specs.Prelude.{ℕ, ◌+◌, Bool, nat_le, nat_lt, length, min, max}
use Rattle.std.specs.Int.Digits.{digits_of}
use Rattle.hours_core.specs.Spans.{length_of}
use Rattle.hours_core.specs.declared.search.Mark.{Mark}
use Rattle.hours_core.specs.declared.search.Mark.TheVariants.{EndsAfter, Counts}
use Rattle.hours_core.specs.declared.spans.Span.{Span}

-- a span ends after the minute, or so many minutes are open up to its end
abbrev pub reaches : Mark → Span → Bool
reaches (EndsAfter m) span = nat_lt m span.end
reaches (Counts n) span = nat_le n (span.before + length_of span)

-- how often a number can be halved until nothing is left
abbrev pub halvings : ℕ → ℕ
halvings n = length (digits_of 2 n)

-- the binary digits of a number, where 0 has one
abbrev pub binary_digits : ℕ → ℕ
binary_digits n = max 1 (halvings n)

-- the most spans that a search among so many reads
abbrev pub most_probes : ℕ → ℕ
most_probes spans = binary_digits spans + 1

-- a count after at least so many more, where it stays at the greatest u32
abbrev pub at_least : ℕ → ℕ → ℕ
at_least count more = min (count + more) 4294967295
