use Rattle.std.proofs.Common.{◌∙◌, ap, arith}
use Rattle.hours_core.specs.Counted.{spans_in}
use Rattle.hours_core.specs.Moment.{first_minute}
use Rattle.hours_core.specs.Spans.{held_before}
use Rattle.hours_core.proofs.CountLemmas.{counted}
use Rattle.hours_core.proofs.search.minutes_between.Goals as goal

pub overflow_sub-result : goal.overflow_sub-result
overflow_sub-result c =
    let spans = c.minutes_up_to.ensures.spans in
    let held = counted first_minute 0 (spans_in c.args.spans.now) c.args.a c.args.b spans
    c.requires in
    let before = c.minutes_up_to-2.ensures.passed
    ∙ ap (λ xs. held_before xs c.args.a) c.minutes_up_to.ensures.same in
    omega (arith, held, c.minutes_up_to.ensures.passed, before)

pub returns-clause-number : goal.returns-clause-number
returns-clause-number c =
    let spans = c.minutes_up_to.ensures.spans in
    let held = counted first_minute 0 (spans_in c.args.spans.now) c.args.a c.args.b spans
    c.requires in
    let before = c.minutes_up_to-2.ensures.passed
    ∙ ap (λ xs. held_before xs c.args.a) c.minutes_up_to.ensures.same in
    omega (arith, held, c.minutes_up_to.ensures.passed, before)
