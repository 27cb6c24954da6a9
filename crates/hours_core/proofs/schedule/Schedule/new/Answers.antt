use Rattle.hours_core.proofs.ScheduleLemmas.{same_holidays}
use Rattle.hours_core.proofs.schedule.Schedule.new.Goals as goal

pub returns : goal.returns
returns c = λ m.
    same_holidays c.args.zone c.args.week.now c.args.years c.in_ok-holidays.holidays
    c.args.holidays.now m c.in_ok-holidays.ensures
