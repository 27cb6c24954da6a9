use Rattle.std.proofs.Common.{◌≡◌, ℕ, ◌+◌, ◌-◌, ◌<◌, ◌≤◌, ◌||◌, true, drop, take}
use Rattle.std.proofs.Common.{get_or, max, suc, ◌∙◌, arith, drop-cons, add-one}
use Rattle.std.specs.List.{list_any}
use Rattle.std.proofs.lemmas.List.Folds.{list_any_more}
use Rattle.hours_core.specs.Hours.{is_within, are_intervals}
use Rattle.hours_core.specs.Moment.{first_minute}
use Rattle.hours_core.specs.Spans.{is_held, last_end}
use Rattle.hours_core.proofs.ScheduleLemmas.{clipped, one_more, nothing_more, next_interval}
use Rattle.hours_core.proofs.schedule.add_day.Goals as goal
use Rattle.hours_core.proofs.schedule.add_day.Goals.{then-start-end+in_ok-append, else-start-end}

interval_of : goal.Joined-start-end → ℕ × ℕ
interval_of c = get_or c.args.intervals.now c.loop-interval.interval-index (0, 0)

-- the interval in turn, and those after it
ordered : (c : goal.Joined-start-end)
    → (c.loop-interval.invariant.after.0 ≤ (interval_of c).0)
    × ((interval_of c).0 < (interval_of c).1) × ((interval_of c).1 ≤ 1440)
    × (are_intervals (interval_of c).1
    (drop (suc c.loop-interval.interval-index) c.args.intervals.now) ≡ true)
unfolding interval_of
ordered c =
    let all = c.loop-interval.invariant.after.1 in
    let h = rw (drop-cons c.args.intervals.now c.loop-interval.interval-index
    (0, 0) c.loop-interval-test.true) at all in
    next_interval c.loop-interval.invariant.after.0 (interval_of c)
    (drop (suc c.loop-interval.interval-index) c.args.intervals.now) h

grown : (c : goal.Joined-start-end) (m : ℕ)
    → is_held c.if-start-end.spans m
    ≡ (is_held c.loop-interval.spans m || is_within m (c.max-start.result, c.min-end.result))
grown c m =
    elim c.if-start-end.branch [
      | then-start-end+in_ok-append w ↦ rw w.spans-is (w.in_ok-append.ensures.held m)
      | else-start-end w ↦
          rw w.spans-is (nothing_more c.max-start.result c.min-end.result m
          (is_held c.loop-interval.spans m) w.if-start-end.false)
    ]

last : (c : goal.Joined-start-end) → (last_end first_minute c.if-start-end.spans ≤ c.args.to)
    × (last_end first_minute c.if-start-end.spans
    ≤ max c.args.from (c.args.midnight + (interval_of c).1))
unfolding interval_of
last c =
    let i = c.loop-interval.invariant in
    let o = ordered c in
    elim c.if-start-end.branch [
      | then-start-end+in_ok-append w ↦
          rw w.spans-is (
            omega (arith, w.in_ok-append.ensures.end),
            omega (arith, w.in_ok-append.ensures.end),
          )
      | else-start-end w ↦ rw w.spans-is (omega (arith, i.last), omega (arith, i.after.2, o.0, o.1))
    ]

pub loop-interval-preserved : goal.loop-interval-preserved
unfolding interval_of
loop-interval-preserved c =
    let i = c.loop-interval.invariant in
    let o = ordered c in
    let xs = c.args.intervals.now in
    let k = c.loop-interval.interval-index in
    record {
      after = ((interval_of c).1, rw add-one o.3, (last c).1);
      last = (last c).0;
      held = λ m.
          grown c m
          ∙ rw (
            i.held m,
            c.max-start.ensures,
            c.min-end.ensures,
            clipped c.args.midnight c.args.from c.args.to (interval_of c).0
                (interval_of c).1 m c.requires.moments.1,
            list_any_more (is_within (m - c.args.midnight)) xs k (0, 0) c.loop-interval-test.true,
          )
          (one_more (is_held c.args.spans.now m) (is_within m (c.args.from, c.args.to))
          (list_any (is_within (m - c.args.midnight)) (take k xs))
          (is_within (m - c.args.midnight) (interval_of c)));
    }
