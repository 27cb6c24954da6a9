use Rattle.hours_core.specs.Counted.{spans_in}
use Rattle.hours_core.specs.Moment.{first_minute}
use Rattle.hours_core.proofs.CountLemmas.{first_is, none_late}
use Rattle.hours_core.proofs.search.first_held.Goals as goal

pub returns-in_err-span-clause-least : goal.returns-in_err-span-clause-least
returns-in_err-span-clause-least c =
    let r = rw (← c.in_err-span.ensures.span)
    at (first_is first_minute 0 (spans_in c.args.spans.now) c.args.m
    c.first_reaching.ensures.spans) in
    rw c.from_residual.ensures r

pub returns-clause-least : goal.returns-clause-least
returns-clause-least c =
    let r = rw (← c.in_ok-span.ensures.span)
    at (first_is first_minute 0 (spans_in c.args.spans.now) c.args.m
    c.first_reaching.ensures.spans) in
    rw c.max.ensures r

pub returns-in_err-span-clause-end : goal.returns-in_err-span-clause-end
returns-in_err-span-clause-end c =
    λ late from.
    none_late first_minute 0 (spans_in c.args.spans.now) late c.first_reaching.ensures.spans from

pub returns-clause-end : goal.returns-clause-end
returns-clause-end c =
    λ late from.
    none_late first_minute 0 (spans_in c.args.spans.now) late c.first_reaching.ensures.spans from
