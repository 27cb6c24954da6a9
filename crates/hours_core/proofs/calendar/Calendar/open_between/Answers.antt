use Rattle.std.proofs.Common.{◌∙◌, ap}
use Rattle.hours_core.specs.Calendar.{opens}
use Rattle.hours_core.specs.Counting.{count}
use Rattle.hours_core.specs.Spans.{is_held}
use Rattle.hours_core.proofs.calendar.Calendar.open_between.Goals as goal

pub returns : goal.returns
unfolding opens
returns c =
    c.minutes_between.ensures.number
    ∙ ap (λ xs. count (is_held xs) c.args.a c.args.b) c.counted-spans.ensures.spans
