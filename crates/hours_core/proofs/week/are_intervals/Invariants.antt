use Rattle.std.proofs.Common.{◌≡◌, drop}
use Rattle.hours_core.specs.Hours as spec
use Rattle.hours_core.proofs.week.are_intervals.Given as goal

-- what is left decides
abbrev pub invariant-loop-interval : goal.invariant-loop-interval
invariant-loop-interval l =
    spec.are_intervals l.earliest (drop l.interval-index l.intervals)
    ≡ spec.are_intervals 0 l.intervals
