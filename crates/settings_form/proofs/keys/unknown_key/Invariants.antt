use Rattle.std.proofs.Common.{◌≡◌}
use Rattle.toml.specs.View.{members_view}
use Rattle.settings_form.specs.Keys.{unknown_key}
use Rattle.settings_form.proofs.keys.unknown_key.Given as goal

abbrev pub invariant-loop-key : goal.invariant-loop-key
invariant-loop-key l =
    (goal.iterator-loop-key).can_next l.key-iterator ×
    (goal.iterator-loop-key).is_finite l.key-iterator ×
    (unknown_key l.place (members_view l.key-iterator)
    ≡ unknown_key l.place (members_view l.table.entries))
