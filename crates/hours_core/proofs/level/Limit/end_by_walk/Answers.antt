use Rattle.std.proofs.Common.{◌≡◌, ◌+◌, Some, None, inl, inr, arith}
use Rattle.std.proofs.lemmas.Bool.{ne_eqb}
use Rattle.hours_core.specs.Calendar.{opens}
use Rattle.hours_core.specs.Counting.{has_passed}
use Rattle.hours_core.specs.Limit.{counts, kind_of, minutes_of}
use Rattle.hours_core.specs.Moment.{end_minute}
use Rattle.hours_core.specs.Pauses.{is_paused}
use Rattle.hours_core.proofs.CountLemmas.{at_once}
use Rattle.hours_core.proofs.LeastLemmas.{count-start, is_least}
use Rattle.hours_core.proofs.StretchLemmas.{from_place}
use Rattle.hours_core.proofs.WalkLemmas.{skip, take_all, ends_here}
use Rattle.hours_core.proofs.level.Limit.end_by_walk.Goals as goal

pub returns-then-left-eq0 : goal.returns-then-left-eq0
returns-then-left-eq0 c =
    let kind = kind_of c.args.self (opens c.args.calendar.now) in
    let paused = is_paused c.args.ignored.now c.args.stays.now in
    let none : minutes_of c.args.self ≡ 0 =
    omega (arith, c.minutes-left.ensures, c.if-left-eq0.true) in
    rw none (is_least (has_passed (counts kind paused) c.args.begin 0) c.args.begin (end_minute + 1)
    (Some c.args.begin) (at_once (counts kind paused) c.args.begin
    (omega (arith, c.get-place.ensures.number, c.get-place.ensures.range))))

pub loop-place-init : goal.loop-place-init
loop-place-init c =
    let kind = kind_of c.args.self (opens c.args.calendar.now) in
    let paused = is_paused c.args.ignored.now c.args.stays.now in
    rw (c.get-place.ensures.number) (record {
      from = omega arith;
      to = omega (arith, c.get-place.ensures.number, c.get-place.ensures.range);
      some = omega (arith, c.if-left-eq0.false);
      passed = omega (arith, count-start (counts kind paused) c.args.begin, c.minutes-left.ensures);
    })

pub loop-place-preserved-then-place-ahead : goal.loop-place-preserved-then-place-ahead
loop-place-preserved-then-place-ahead c =
    let i = c.loop-place.invariant in
    let ahead = c.ahead_of-ahead.ensures in
    record {
      from = omega (arith, i.from, ahead.past.0);
      to = ahead.past.1;
      some = i.some;
      passed = skip (kind_of c.args.self (opens c.args.calendar.now))
          (is_paused c.args.ignored.now c.args.stays.now) c.args.begin c.loop-place.place
          c.ahead_of-ahead.result.past c.loop-place.left (minutes_of c.args.self) i.from
          ahead.past.0 ahead.paused i.passed;
    }

pub loop-place-preserved : goal.loop-place-preserved
loop-place-preserved c =
    let i = c.loop-place.invariant in
    let ahead = c.ahead_of-ahead.ensures in
    let low = ahead.next.0 c.loop-place-test.true in
    record {
      from = omega (arith, i.from, low);
      to = ahead.next.1;
      some = omega (arith, c.if-left-minutes.false);
      passed = rw c.count_between-minutes.ensures
          (take_all (kind_of c.args.self (opens c.args.calendar.now))
          (is_paused c.args.ignored.now c.args.stays.now) c.args.begin c.loop-place.place
          c.ahead_of-ahead.result.next c.loop-place.left (minutes_of c.args.self) i.from
          (omega (arith, low))
          (ahead.clear (omega (arith, ahead.past.0, c.if-place-ahead.false))) i.passed
          (omega (arith, c.count_between-minutes.ensures, c.if-left-minutes.false)));
    }

pub returns-then-ahead-eq-END : goal.returns-then-ahead-eq-END
returns-then-ahead-eq-END c =
    let i = c.loop-place.invariant in
    let ahead = c.ahead_of-ahead.ensures in
    let low = ahead.next.0 c.loop-place-test.true in
    let kind = kind_of c.args.self (opens c.args.calendar.now) in
    let paused = is_paused c.args.ignored.now c.args.stays.now in
    is_least (has_passed (counts kind paused) c.args.begin (minutes_of c.args.self)) c.args.begin
    (end_minute + 1) c.end_of_count.result
    (ends_here kind paused c.args.begin c.loop-place.place c.ahead_of-ahead.result.next
    c.loop-place.left (minutes_of c.args.self) (end_minute + 1) c.end_of_count.result i.from
    (omega (arith, low)) (omega (arith, ahead.next.1)) i.some
    (ahead.clear (omega (arith, ahead.past.0, c.if-place-ahead.false))) i.passed
    (inr (omega (arith, c.if-ahead-eq-END.true))) (rw c.at.ensures at c.end_of_count.ensures))

pub returns-then-left-minutes : goal.returns-then-left-minutes
returns-then-left-minutes c =
    let i = c.loop-place.invariant in
    let ahead = c.ahead_of-ahead.ensures in
    let low = ahead.next.0 c.loop-place-test.true in
    let kind = kind_of c.args.self (opens c.args.calendar.now) in
    let paused = is_paused c.args.ignored.now c.args.stays.now in
    let end = c.end_of_count-then-left-minutes in
    is_least (has_passed (counts kind paused) c.args.begin (minutes_of c.args.self)) c.args.begin
    (end_minute + 1) end.result
    (ends_here kind paused c.args.begin c.loop-place.place c.ahead_of-ahead.result.next
    c.loop-place.left (minutes_of c.args.self) (end_minute + 1) end.result i.from
    (omega (arith, low)) (omega (arith, ahead.next.1)) i.some
    (ahead.clear (omega (arith, ahead.past.0, c.if-place-ahead.false))) i.passed
    (inl (omega (arith, c.count_between-minutes.ensures, c.if-left-minutes.true)))
    (rw c.at-then-left-minutes.ensures at end.ensures))

pub returns : goal.returns
returns c =
    let i = c.loop-place.invariant in
    let kind = kind_of c.args.self (opens c.args.calendar.now) in
    let paused = is_paused c.args.ignored.now c.args.stays.now in
    let place = c.loop-place.place in
    is_least (has_passed (counts kind paused) c.args.begin (minutes_of c.args.self)) c.args.begin
    (end_minute + 1) None
    (from_place (counts kind paused) c.args.begin place (minutes_of c.args.self) c.loop-place.left
    (end_minute + 1) None i.from i.passed i.some
    (λ k low high.
    let same : k ≡ place = omega (arith, i.to, c.loop-place-test.false) in
    rw same (ne_eqb _ _ (λ e. omega (arith, count-start (counts kind paused) place, e, i.some)))))
