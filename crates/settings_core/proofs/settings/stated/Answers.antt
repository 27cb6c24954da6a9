use Rattle.std.proofs.Common.{sym, ◌∙◌}
use Rattle.toml.specs.View.{table_view}
use Rattle.settings_core.proofs.Built.{stated}
use Rattle.settings_core.proofs.Faults.{none_of_either}
use Rattle.settings_core.proofs.settings.stated.Goals as goal

pub returns-in-None-clause-ok : goal.returns-in-None-clause-ok
returns-in-None-clause-ok c =
    let ms = table_view c.args.table.now in (
      none_of_either ms c.in_ok-settings.ensures.ok.0 (sym c.in_ok-fault.ensures ∙ c.in-None.is),
      stated ms _ c.in_ok-settings.ensures.ok.1,
    )
