use Rattle.std.proofs.Common.{arith}
use Rattle.hours_core.specs.Counted.{spans_in}
use Rattle.hours_core.specs.Moment.{first_minute}
use Rattle.hours_core.proofs.CountLemmas.{passed_is}
use Rattle.hours_core.proofs.search.minutes_before.Goals as goal

pub returns-in_err-span-clause-passed : goal.returns-in_err-span-clause-passed
returns-in_err-span-clause-passed c =
    let r = rw (← c.in_err-span.ensures.span)
    at (passed_is first_minute 0 (spans_in c.args.spans.now) c.args.m
    c.first_reaching.ensures.spans) in
    rw c.from_residual.ensures r

pub overflow_add-result : goal.overflow_add-result
overflow_add-result c =
    let r = rw (← c.in_ok-span.ensures.span)
    at (passed_is first_minute 0 (spans_in c.args.spans.now) c.args.m
    c.first_reaching.ensures.spans) in
    omega (arith, r.1)

pub returns-clause-passed : goal.returns-clause-passed
returns-clause-passed c =
    let r = rw (← c.in_ok-span.ensures.span)
    at (passed_is first_minute 0 (spans_in c.args.spans.now) c.args.m
    c.first_reaching.ensures.spans) in
    omega (arith, r.0)
