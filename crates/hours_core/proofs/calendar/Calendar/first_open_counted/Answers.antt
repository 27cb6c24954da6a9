use Rattle.std.proofs.Common.{Some, length, ap, arith}
use Rattle.hours_core.specs.Calendar.{opens, spans_of}
use Rattle.hours_core.specs.Moment.{end_minute}
use Rattle.hours_core.proofs.LeastLemmas.{is_least}
use Rattle.hours_core.proofs.SearchLemmas.{halved_too}
use Rattle.hours_core.proofs.calendar.Calendar.first_open_counted.Goals as goal

pub returns-in_err-first-clause-least : goal.returns-in_err-first-clause-least
unfolding opens
returns-in_err-first-clause-least c =
    let none = rw (c.get.ensures.number, c.counted-spans.ensures.spans)
    at c.in_err-first.ensures.least in
    rw c.from_residual.ensures none

pub returns-in_err-first-clause-first : goal.returns-in_err-first-clause-first
returns-in_err-first-clause-first c =
    is_least (opens c.args.self.now) c.args.m end_minute c.from_residual.result
    (returns-in_err-first-clause-least c)

pub returns-in_err-first-clause-most : goal.returns-in_err-first-clause-most
unfolding spans_of
returns-in_err-first-clause-most c =
    omega (
      arith,
      c.first_held.ensures.most,
      c.counted-spans.ensures.count,
      halved_too _ _ c.counted-spans.ensures.spans,
    )

pub returns-in_err-first-clause-some : goal.returns-in_err-first-clause-some
unfolding spans_of
returns-in_err-first-clause-some c = λ some.
    omega (
      arith,
      c.first_held.ensures.some,
      c.counted-spans.ensures.count,
      ap length c.counted-spans.ensures.spans,
    )

pub returns-clause-least : goal.returns-clause-least
unfolding opens
returns-clause-least c =
    let found = rw (c.get.ensures.number, c.counted-spans.ensures.spans)
    at c.in_ok-first.ensures.least in
    rw c.at.ensures found

pub returns-clause-first : goal.returns-clause-first
returns-clause-first c =
    is_least (opens c.args.self.now) c.args.m end_minute (Some c.at.result) (returns-clause-least c)

pub returns-clause-most : goal.returns-clause-most
unfolding spans_of
returns-clause-most c =
    omega (
      arith,
      c.first_held.ensures.most,
      c.counted-spans.ensures.count,
      halved_too _ _ c.counted-spans.ensures.spans,
    )

pub returns-clause-some : goal.returns-clause-some
unfolding spans_of
returns-clause-some c = λ some.
    omega (
      arith,
      c.first_held.ensures.some,
      c.counted-spans.ensures.count,
      ap length c.counted-spans.ensures.spans,
    )
