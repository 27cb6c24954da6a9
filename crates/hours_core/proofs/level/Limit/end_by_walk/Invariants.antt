use Rattle.std.proofs.Common.{◌≡◌, ◌+◌, ◌-◌, ◌<◌, ◌≤◌}
use Rattle.hours_core.specs.Calendar.{opens}
use Rattle.hours_core.specs.Counting.{count}
use Rattle.hours_core.specs.Limit.{counts, kind_of, minutes_of}
use Rattle.hours_core.specs.Moment.{end_minute}
use Rattle.hours_core.specs.Pauses.{is_paused}
use Rattle.hours_core.proofs.level.Limit.end_by_walk.Given as goal

-- what counts up to the place, and what is left, are the limit's minutes
abbrev pub invariant-loop-place : goal.invariant-loop-place
invariant-loop-place l = record {
  from : l.fn.begin ≤ l.place;
  to : l.place ≤ end_minute;
  some : 0 < l.left;
  passed : count (counts (kind_of l.self (opens l.calendar)) (is_paused l.ignored l.stays))
      l.fn.begin l.place + l.left ≡ minutes_of l.self;
}

abbrev pub decreases-loop-place : goal.decreases-loop-place
decreases-loop-place l = end_minute - l.place
