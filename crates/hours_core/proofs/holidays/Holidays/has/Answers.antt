use Rattle.std.proofs.Common.{◌∙◌}
use Rattle.hours_core.proofs.HolidayLemmas.{found}
use Rattle.hours_core.proofs.holidays.Holidays.has.Goals as goal

pub returns : goal.returns
returns c =
    let r = rw c.deref.ensures.value at c.binary_search.ensures.position in
    rw (← c.self.view_is)
    (c.is_ok.ensures.value
    ∙ found c.args.day c.self.inside.days.items c.binary_search.result r c.self.invariant)
