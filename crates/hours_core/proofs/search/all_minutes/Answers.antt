use Rattle.std.proofs.Common.{◌-◌, arith}
use Rattle.hours_core.specs.Counted.{spans_in}
use Rattle.hours_core.specs.Moment.{first_minute, end_minute}
use Rattle.hours_core.proofs.CountLemmas.{all_held, held_few}
use Rattle.hours_core.proofs.search.all_minutes.Goals as goal

pub returns-clause-all : goal.returns-clause-all
returns-clause-all c = λ m late.
    let last = c.read-last.result in
    let all = all_held first_minute 0 (spans_in c.args.spans.now) (c.len-number.result - 1) m last
    c.len-number.ensures.spans
    (omega (arith, c.len-number.ensures.number, c.if-number-eq0.false)) late in
    omega (arith, rw (← c.read-last.ensures.span last) at all, c.minutes.ensures)

pub overflow_add-result : goal.overflow_add-result
overflow_add-result c =
    let last = c.read-last.result in
    let all = all_held first_minute 0 (spans_in c.args.spans.now) (c.len-number.result - 1)
    end_minute last
    c.len-number.ensures.spans
    (omega (arith, c.len-number.ensures.number, c.if-number-eq0.false)) (omega arith) in
    omega (
      arith,
      rw (← c.read-last.ensures.span last) at all,
      c.minutes.ensures,
      held_few first_minute 0 (spans_in c.args.spans.now) end_minute c.len-number.ensures.spans,
    )
