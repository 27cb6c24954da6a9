use Rattle.std.proofs.Common.{◌≡◌, ◌++◌}
use Rattle.toml.specs.View.{members_view}
use Rattle.settings_parts.specs.LifecycleParts.{rights_in}
use Rattle.settings_parts.proofs.lifecycle.rights_in.Given as goal

abbrev pub invariant-loop-key : goal.invariant-loop-key
invariant-loop-key l =
    (goal.iterator-loop-key).can_next l.key-iterator ×
    (goal.iterator-loop-key).is_finite l.key-iterator ×
    (l.found.items ++ rights_in (members_view l.key-iterator)
    ≡ rights_in (members_view l.table.entries))
