use Rattle.std.proofs.Common.{◌≡◌, ◌+◌, ◌<◌, ◌≤◌, take}
use Rattle.hours_core.specs.Calendar.{opens}
use Rattle.hours_core.specs.Counting.{count}
use Rattle.hours_core.specs.Limit.{counts, kind_of, minutes_of}
use Rattle.hours_core.specs.Moment.{end_minute}
use Rattle.hours_core.specs.Pauses.{is_paused}
use Rattle.hours_core.proofs.PauseLemmas.{AreOver}
use Rattle.hours_core.proofs.level.Limit.end_in_order.Given as goal

-- what counts up to the place, and what is left, are the limit's minutes, and the stays so far pause
-- nothing from there on
abbrev pub invariant-loop-stay : goal.invariant-loop-stay
invariant-loop-stay l = record {
  from : l.fn.begin ≤ l.place;
  to : l.place ≤ end_minute;
  some : 0 < l.left;
  over : AreOver l.ignored (take l.stay-index l.stays) l.place;
  passed : count (counts (kind_of l.self (opens l.calendar)) (is_paused l.ignored l.stays))
      l.fn.begin l.place + l.left ≡ minutes_of l.self;
}
