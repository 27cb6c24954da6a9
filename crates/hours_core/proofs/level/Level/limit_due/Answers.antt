use Rattle.std.proofs.Common.{◌≡◌, ◌∙◌}
use Rattle.hours_core.specs.Calendar.{opens}
use Rattle.hours_core.specs.Limit.{limit_due}
use Rattle.hours_core.proofs.LimitLemmas.{due_without_pause}
use Rattle.hours_core.proofs.level.Level.limit_due.Goals as goal

pub returns-clause-plain : goal.returns-clause-plain
returns-clause-plain c = λ none.
    let level = c.args.self.now in
    let due : c.end.result
    ≡ limit_due (opens c.args.calendar.now) level c.args.stays.now c.args.from c.args.limit =
    rw (← c.in_ok-begin.ensures) c.end.ensures in
    due
    ∙ due_without_pause (opens c.args.calendar.now) level c.args.stays.now c.args.from c.args.limit
    none
