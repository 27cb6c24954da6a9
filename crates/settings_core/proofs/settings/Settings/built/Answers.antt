use Rattle.std.proofs.Common.{rules}
use Rattle.toml.specs.View.{table_view}
use Rattle.settings_core.specs.Lifecycles.{lifecycles_of}
use Rattle.settings_core.proofs.Found.{alike}
use Rattle.settings_core.proofs.settings.Settings.built.Goals as goal

pub returns-clause-ok : goal.returns-clause-ok
returns-clause-ok c =
    let same = alike c.in_ok-lifecycles.lifecycles.items (lifecycles_of (table_view c.args.table.now))
    c.in_ok-lifecycles.ensures.ok.1 in
    search rules
