use Rattle.std.proofs.Common.{not, refl}
use Rattle.toml.specs.View.{table_view}
use Rattle.rights_core.proofs.Failing.{none_found}
use Rattle.settings_core.specs.Names.{knows_calendar}
use Rattle.settings_core.proofs.names.knows_calendars.Goals as goal

pub returns : goal.returns
returns c =
    let ms = table_view c.args.table.now in
    none_found (λ l. l.now) (λ l. knows_calendar ms l.value.calendar)
    (λ l. not (knows_calendar ms l.value.calendar)) c.unknown_calendar.result c.is_none.result
    c.args.levels.now (λ l. refl) c.is_none.ensures c.unknown_calendar.ensures
