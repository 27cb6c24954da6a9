use Rattle.std.proofs.Common.{arith}
use Rattle.std.proofs.lemmas.Int.{ints}
use Rattle.days.proofs.DateLemmas.{only}
use Rattle.days.proofs.dates.date_of_day.Goals as goal

pub returns-clause-calendar : goal.returns-clause-calendar
returns-clause-calendar c = (
  c.civil_date-found.result,
  omega (arith, ints),
  omega (arith, ints),
  omega (arith, ints),
  omega (arith, ints, c.civil_date-found.ensures.number),
)

pub returns-clause-counted : goal.returns-clause-counted
returns-clause-counted c = only c.args.day _ (omega (arith)) (returns-clause-calendar c)
