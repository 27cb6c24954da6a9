use Rattle.std.proofs.Common.{FitsSigned, w64, rules, arith}
use Rattle.std.proofs.lemmas.Int.{ints}
use Rattle.days.proofs.DayLemmas.{hours_since, small_day}
use Rattle.days.proofs.numbers.hours_since_first.Goals as goal

pub returns-clause-hours : goal.returns-clause-hours
returns-clause-hours c =
    let fits : FitsSigned w64 c.as_hours.result = search rules in
    let hours =
    hours_since c.date.result c.args.day _ c.as_hours.result c.date.ensures c.requires
    c.duration_since.ensures
    c.as_hours.ensures in
    omega (arith, ints)

pub returns-clause-small : goal.returns-clause-small
returns-clause-small c = small_day c.date.result c.args.day c.date.ensures c.requires
