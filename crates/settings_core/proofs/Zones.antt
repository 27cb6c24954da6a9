-- A calendar of its parts.
use Rattle.std.proofs.Common.{◌≡◌, None}
use Rattle.std.proofs.Common.{Result, Ok, sym, subst}
use Rattle.std.specs.Option.{option_or}
use Rattle.std.specs.Result.{result_err}
use Rattle.hours_core.specs.Calendar.{HasHours}
use Rattle.hours_core.specs.Hours.{hours_of, calendar_fault}
use Rattle.hours_core.specs.Zone.{Offsets}
use Rattle.hours_core.specs.declared.fault.HoursFault.{HoursFault}
use Rattle.settings_parts.specs.CalendarParts.{StatedHours}
use Rattle.settings_core.specs.Calendars.{HasOpening, IsOpeningOf, offsets_of}
use Rattle.settings_core.specs.declared.calendars.Opening.{Opening}

pub from_parts : (opening : Opening) (zone : Offsets) (stated : StatedHours)
    → stated.zone ≡ Ok zone → opening.zone ≡ zone
    → calendar_fault stated.week stated.years ≡ None
    → HasHours opening.calendar (hours_of zone stated.week stated.holidays stated.years)
    → IsOpeningOf stated opening
from_parts opening zone stated built same valid hours =
    let P : Result Offsets HoursFault → Type 0 =
    λ z. option_or (result_err z) (calendar_fault stated.week stated.years) ≡ None in
    let Q : Result Offsets HoursFault → Type 0 =
    λ z. HasOpening opening (hours_of (offsets_of z) stated.week stated.holidays stated.years) in
    (subst P (sym built) valid, subst Q (sym built) (hours, same))
