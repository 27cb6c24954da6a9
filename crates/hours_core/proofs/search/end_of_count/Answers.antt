use Rattle.std.proofs.Common.{◌+◌, ◌<◌, arith}
use Rattle.hours_core.specs.Counted.{spans_in}
use Rattle.hours_core.specs.Moment.{first_minute}
use Rattle.hours_core.specs.Spans.{is_held}
use Rattle.hours_core.proofs.CountLemmas.{at_once, none_passes, IsEnd, end_is, passes}
use Rattle.hours_core.proofs.SearchLemmas.{found_too, halved_too}
use Rattle.hours_core.proofs.search.end_of_count.Goals as goal

pub returns-then-n-eq0-clause-least : goal.returns-then-n-eq0-clause-least
returns-then-n-eq0-clause-least c =
    rw c.if-n-eq0.true (at_once (is_held (spans_in c.args.spans.now)) c.args.m c.requires)

pub returns-in_err-end-clause-least : goal.returns-in_err-end-clause-least
returns-in_err-end-clause-least c =
    rw c.from_residual.ensures
    (none_passes (spans_in c.args.spans.now) c.args.m c.args.n c.minutes_before.ensures.spans
    (λ k low. omega (arith, c.in_err-end.ensures.passed k low)))

pub returns-in_err-span-clause-least : goal.returns-in_err-span-clause-least
returns-in_err-span-clause-least c =
    let some : 0 < c.in_ok-end.field-0 + c.args.n = omega arith in
    let found = found_too _ _ (spans_in c.args.spans.now) _ c.minutes_before.ensures.same
    c.in_err-span.ensures.span in
    let r = rw (← found)
    at (end_is first_minute 0 (spans_in c.args.spans.now)
    (c.in_ok-end.field-0 + c.args.n) c.minutes_before.ensures.spans some) in
    rw c.from_residual-in_err-span.ensures
    (none_passes (spans_in c.args.spans.now) c.args.m c.args.n c.minutes_before.ensures.spans
    (λ k low. omega (arith, r k, c.in_ok-end.ensures.passed)))

pub returns-in_err-span-clause-most : goal.returns-in_err-span-clause-most
returns-in_err-span-clause-most c =
    omega (
      arith,
      c.minutes_before.ensures.most,
      c.first_reaching.ensures.most,
      halved_too _ _ c.minutes_before.ensures.same,
    )

ends : (c : goal.In_ok-span)
    → IsEnd first_minute 0 (spans_in c.args.spans.now) (c.in_ok-end.field-0 + c.args.n)
    c.in_ok-span.span
ends c =
    let some : 0 < c.in_ok-end.field-0 + c.args.n = omega arith in
    let found = found_too _ _ (spans_in c.args.spans.now) _ c.minutes_before.ensures.same
    c.in_ok-span.ensures.span in
    rw (← found)
    at (end_is first_minute 0 (spans_in c.args.spans.now)
    (c.in_ok-end.field-0 + c.args.n) c.minutes_before.ensures.spans some)

pub overflow_sub-result : goal.overflow_sub-result
overflow_sub-result c = omega (arith, (ends c).begun)

pub overflow_cast-result-2 : goal.overflow_cast-result-2
overflow_cast-result-2 c = omega (arith, (ends c).reached, (ends c).to)

pub overflow_add-result : goal.overflow_add-result
overflow_add-result c = omega (arith, (ends c).reached, (ends c).to)

pub returns-clause-least : goal.returns-clause-least
returns-clause-least c =
    passes (spans_in c.args.spans.now) c.args.m c.args.n c.in_ok-end.field-0 c.in_ok-span.span
    c.minutes_before.ensures.spans (omega arith) c.in_ok-end.ensures.passed (ends c)

pub returns-clause-most : goal.returns-clause-most
returns-clause-most c =
    omega (
      arith,
      c.minutes_before.ensures.most,
      c.first_reaching.ensures.most,
      halved_too _ _ c.minutes_before.ensures.same,
    )
