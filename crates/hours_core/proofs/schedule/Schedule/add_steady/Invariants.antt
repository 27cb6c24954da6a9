use Rattle.std.proofs.Common.{◌≤◌, ◌-◌}
use Rattle.hours_core.specs.Schedule.{HoldBefore}
use Rattle.hours_core.proofs.schedule.Schedule.add_steady.Given as goal

-- the spans hold what is open before the point
abbrev pub invariant-loop-point : goal.invariant-loop-point
invariant-loop-point l = record {
  from : l.from ≤ l.point;
  to : l.point ≤ l.to;
  before : HoldBefore l.self l.point l.spans;
}

abbrev pub decreases-loop-point : goal.decreases-loop-point
decreases-loop-point l = l.to - l.point
