use Rattle.std.proofs.Common.{◌≡◌, ℕ, ◌+◌, ◌-◌, ◌*◌, ◌/◌, ◌%◌, ◌<◌}
use Rattle.std.proofs.Common.{◌≤◌, pos, ◌+ℤ◌, sym, ap, ◌∙◌, arith}
use Rattle.std.proofs.lemmas.Int.{ints}
use Rattle.hours_core.specs.Hours.{Hours}
use Rattle.hours_core.specs.Zone.{offset_at, local_minute}
use Rattle.hours_core.proofs.ScheduleLemmas.{held_more, clock_at}
use Rattle.hours_core.proofs.schedule.Schedule.add_steady.Goals as goal

-- between the minutes the clock goes on from where it was
clock : (c : goal.In_ok-add_day) (m : ℕ) → c.loop-point.point ≤ m → m < c.args.to
    → local_minute c.args.self.now.zone m
    ≡ c.shifted-local.result / 1440 * 1440
    + (m - (c.loop-point.point - c.shifted-local.result % 1440))
clock c m from before =
    let zone = c.args.self.now.zone in
    let i = c.loop-point.invariant in
    let same = c.requires.steady m (omega (arith, i.from)) before in
    let first = c.ahead_at-offset.ensures.offset
    ∙ ap (λ (h : Hours). offset_at h.zone.first h.zone.changes c.args.from) c.self.view_is in
    let shown : pos c.shifted-local.result ≡ pos c.loop-point.point +ℤ c.ahead_at-offset.result =
    omega (arith, ints, c.shifted-local.ensures, c.ahead_at-offset.ensures.range) in
    rw (same ∙ sym first)
    (clock_at c.loop-point.point c.shifted-local.result m c.ahead_at-offset.result shown from
    (omega (arith, i.from, c.requires.moments)))

pub loop-point-preserved : goal.loop-point-preserved
loop-point-preserved c =
    let i = c.loop-point.invariant in
    let a = c.min-next.ensures in
    let h = c.requires.moments in
    record {
      from = omega (arith, i.from);
      to = omega arith;
      before =
          held_more c.args.self.now c.loop-point.point c.min-next.result
          (c.loop-point.point - c.shifted-local.result % 1440) (c.shifted-local.result / 1440)
          c.intervals_on.result.now c.loop-point.spans c.add_day.new.spans i.before
          (omega (arith, i.from)) (omega arith) (omega arith) (omega arith) (omega arith)
          (λ m from inside. clock c m from (omega arith))
          c.intervals_on.ensures.open c.in_ok-add_day.ensures.held c.in_ok-add_day.ensures.end;
    }
