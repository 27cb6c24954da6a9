use Rattle.std.proofs.Common.{ap}
use Rattle.toml.specs.View.{members_view, table_view}
use Rattle.settings_core.proofs.Empty.{settings_of_empty, only_memory}
use Rattle.settings_core.proofs.settings.Settings.built_in.Goals as goal

pub returns-clause-ok : goal.returns-clause-ok
returns-clause-ok c =
    settings_of_empty c.stated.result (table_view c.new.result)
    (ap members_view c.new.ensures.empty) c.stated.ensures.ok

pub returns-clause-err : goal.returns-clause-err
returns-clause-err c =
    only_memory c.stated.result (table_view c.new.result)
    (ap members_view c.new.ensures.empty) c.stated.ensures.err
