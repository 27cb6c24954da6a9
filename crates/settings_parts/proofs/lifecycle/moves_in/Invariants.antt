use Rattle.std.proofs.Common.{◌≡◌, ◌++◌}
use Rattle.toml.specs.View.{members_view}
use Rattle.settings_parts.specs.LifecycleParts.{moves_in}
use Rattle.settings_parts.proofs.lifecycle.moves_in.Given as goal

abbrev pub invariant-loop-from : goal.invariant-loop-from
invariant-loop-from l =
    (goal.iterator-loop-from).can_next l.from-iterator ×
    (goal.iterator-loop-from).is_finite l.from-iterator ×
    (l.found.items ++ moves_in (members_view l.from-iterator)
    ≡ moves_in (members_view l.table.entries))
