use Rattle.std.proofs.Common.{◌≡◌, ◌<◌, ◌≤◌, take}
use Rattle.hours_core.specs.Least.{NoneHolds, AllHold}
use Rattle.hours_core.specs.Moment.{end_minute}
use Rattle.hours_core.specs.Pauses.{is_paused}
use Rattle.hours_core.proofs.pauses.ahead_of.Given as goal

-- what lies ahead by the stays so far
abbrev pub invariant-loop-stay : goal.invariant-loop-stay
invariant-loop-stay l = record {
  low : l.m ≤ l.past;
  high : l.past ≤ end_minute;
  after : l.m < end_minute → l.m < l.next;
  to : l.next ≤ end_minute;
  paused : AllHold (is_paused l.ignored (take l.stay-index l.stays)) l.m l.past;
  clear : l.past ≡ l.m → NoneHolds (is_paused l.ignored (take l.stay-index l.stays)) l.m l.next;
}
