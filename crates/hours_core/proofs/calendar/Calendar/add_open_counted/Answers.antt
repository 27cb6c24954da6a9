use Rattle.std.proofs.Common.{◌+◌, Some, length, ap, arith}
use Rattle.hours_core.specs.Calendar.{opens, spans_of}
use Rattle.hours_core.specs.Counting.{has_passed}
use Rattle.hours_core.specs.Moment.{end_minute}
use Rattle.hours_core.proofs.LeastLemmas.{is_least}
use Rattle.hours_core.proofs.SearchLemmas.{halved_too}
use Rattle.hours_core.proofs.calendar.Calendar.add_open_counted.Goals as goal

pub returns-in_err-end-clause-least : goal.returns-in_err-end-clause-least
unfolding opens
returns-in_err-end-clause-least c =
    let none = rw (c.get.ensures.number, c.counted-spans.ensures.spans)
    at c.in_err-end.ensures.least in
    rw c.from_residual.ensures none

pub returns-in_err-end-clause-end : goal.returns-in_err-end-clause-end
returns-in_err-end-clause-end c =
    is_least (has_passed (opens c.args.self.now) c.args.m c.args.n) c.args.m
    (end_minute + 1) c.from_residual.result (returns-in_err-end-clause-least c)

pub returns-in_err-end-clause-most : goal.returns-in_err-end-clause-most
unfolding spans_of
returns-in_err-end-clause-most c =
    omega (
      arith,
      c.end_of_count.ensures.most,
      c.counted-spans.ensures.count,
      halved_too _ _ c.counted-spans.ensures.spans,
    )

pub returns-in_err-end-clause-some : goal.returns-in_err-end-clause-some
unfolding spans_of
returns-in_err-end-clause-some c = λ asked some.
    omega (
      arith,
      c.end_of_count.ensures.some asked,
      c.counted-spans.ensures.count,
      ap length c.counted-spans.ensures.spans,
    )

pub returns-clause-least : goal.returns-clause-least
unfolding opens
returns-clause-least c =
    let found = rw (c.get.ensures.number, c.counted-spans.ensures.spans)
    at c.in_ok-end.ensures.least in
    rw c.at.ensures found

pub returns-clause-end : goal.returns-clause-end
returns-clause-end c =
    is_least (has_passed (opens c.args.self.now) c.args.m c.args.n) c.args.m (end_minute + 1)
    (Some c.at.result) (returns-clause-least c)

pub returns-clause-most : goal.returns-clause-most
unfolding spans_of
returns-clause-most c =
    omega (
      arith,
      c.end_of_count.ensures.most,
      c.counted-spans.ensures.count,
      halved_too _ _ c.counted-spans.ensures.spans,
    )

pub returns-clause-some : goal.returns-clause-some
unfolding spans_of
returns-clause-some c = λ asked some.
    omega (
      arith,
      c.end_of_count.ensures.some asked,
      c.counted-spans.ensures.count,
      ap length c.counted-spans.ensures.spans,
    )
