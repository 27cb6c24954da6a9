use Rattle.std.proofs.Common.{◌≡◌, ◌++◌}
use Rattle.toml.specs.View.{members_view}
use Rattle.settings_core.specs.Levels.{levels_in}
use Rattle.settings_core.proofs.levels.levels_in.Given as goal

abbrev pub invariant-loop-name : goal.invariant-loop-name
invariant-loop-name l =
    (goal.iterator-loop-name).can_next l.name-iterator ×
    (goal.iterator-loop-name).is_finite l.name-iterator ×
    (l.found.items ++ levels_in (members_view l.name-iterator)
    ≡ levels_in (members_view l.table.entries))
