use Rattle.hours_core.proofs.date.date_of.Goals as goal

pub returns-clause-calendar : goal.returns-clause-calendar
returns-clause-calendar c = rw (← c.get.ensures.number) c.date_of_day.ensures.calendar
