use Rattle.std.proofs.Common.{◌≡◌, ℕ, ℤ, ◌<◌, ◌≤◌, take}
use Rattle.hours_core.specs.Moment.{end_minute}
use Rattle.hours_core.specs.Zone as spec
use Rattle.hours_core.proofs.zone.next_change.Given as goal

-- the changes so far leave the offset as it is up to `next`
abbrev pub invariant-loop-change : goal.invariant-loop-change
invariant-loop-change l = record {
  from : l.m < l.next;
  to : l.next ≤ end_minute;
  steady : (first : ℤ) (later : ℕ) → l.m ≤ later → later < l.next
      → spec.offset_at first (take l.change-index l.changes) later
      ≡ spec.offset_at first (take l.change-index l.changes) l.m;
}
