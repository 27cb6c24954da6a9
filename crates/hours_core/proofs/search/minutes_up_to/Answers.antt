use Rattle.std.proofs.Common.{◌+◌, ◌∙◌, ap, arith}
use Rattle.hours_core.specs.Moment.{end_minute}
use Rattle.hours_core.specs.Spans.{held_before}
use Rattle.hours_core.proofs.search.minutes_up_to.Goals as goal

pub returns-in-None-clause-passed : goal.returns-in-None-clause-passed
returns-in-None-clause-passed c =
    let late = c.args.m + end_minute in
    c.all_minutes.ensures.all late (omega arith)
    ∙ ap (λ xs. held_before xs late) c.minutes_before.ensures.same
    ∙ c.in-None.ensures.passed late (omega arith)
