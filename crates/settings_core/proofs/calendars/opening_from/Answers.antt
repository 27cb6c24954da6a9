use Rattle.std.proofs.Common.{refl}
use Rattle.settings_parts.specs.CalendarParts.{hours_stated}
use Rattle.settings_core.proofs.Zones.{from_parts}
use Rattle.settings_core.proofs.calendars.opening_from.Goals as goal

pub returns-clause-ok : goal.returns-clause-ok
returns-clause-ok c =
    let hours = rw c.as_slice-holidays.ensures.value at c.in_ok-calendar.ensures.hours.0 in
    from_parts _ _ (hours_stated c.args.parts.now) c.in_ok-zone.ensures.ok refl
    c.in_ok-calendar.ensures.valid (rw c.in_ok-given.ensures at hours)
