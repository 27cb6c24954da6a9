use Rattle.std.proofs.Common.{rules}
use Rattle.days.specs.Dates.{first_day_of}
use Rattle.days.proofs.DayLemmas.{earlier_days, first_day_range, later_days}
use Rattle.days.proofs.numbers.first_day.Goals as goal

number : goal.returns-clause-number
unfolding first_day_of
number c = search rules

pub returns-clause-number : goal.returns-clause-number
returns-clause-number c = number c

pub returns-clause-range : goal.returns-clause-range
returns-clause-range c =
    let e = number c in
    rw e (first_day_range c.args.year c.requires.0 c.requires.1)

pub returns-clause-before : goal.returns-clause-before
returns-clause-before c =
    let e = number c in
    rw e (λ day. earlier_days c.args.year day c.requires.0 c.requires.1)

pub returns-clause-after : goal.returns-clause-after
returns-clause-after c =
    let e = number c in
    rw e (λ day. later_days c.args.year day c.requires.0 c.requires.1)
