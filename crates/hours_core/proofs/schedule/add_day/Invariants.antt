use Rattle.std.proofs.Common.{◌≡◌, ℕ, true, ◌+◌, ◌-◌, ◌≤◌, ◌&&◌, ◌||◌, drop, take, max}
use Rattle.std.specs.List.{list_any}
use Rattle.hours_core.specs.Hours as spec
use Rattle.hours_core.specs.Moment.{first_minute}
use Rattle.hours_core.specs.Spans.{is_held, last_end}
use Rattle.hours_core.proofs.schedule.add_day.Given as goal

-- the spans hold the intervals so far, and those that are left come after them
abbrev pub invariant-loop-interval : goal.invariant-loop-interval
invariant-loop-interval l = record {
  after : (earliest : ℕ) × (spec.are_intervals earliest (drop l.interval-index l.intervals) ≡ true)
      × (last_end first_minute l.spans ≤ max l.from (l.midnight + earliest));
  last : last_end first_minute l.spans ≤ l.to;
  held : (m : ℕ) → is_held l.spans m
      ≡ (is_held l.fn.spans m
      || (spec.is_within m (l.from, l.to)
      && list_any (spec.is_within (m - l.midnight)) (take l.interval-index l.intervals)));
}
