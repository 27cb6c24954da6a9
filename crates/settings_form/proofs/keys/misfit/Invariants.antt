use Rattle.std.proofs.Common.{◌≡◌}
use Rattle.toml.specs.View.{members_view}
use Rattle.settings_form.specs.Keys.{misfit}
use Rattle.settings_form.proofs.keys.misfit.Given as goal

abbrev pub invariant-loop-key : goal.invariant-loop-key
invariant-loop-key l =
    (goal.iterator-loop-key).can_next l.key-iterator ×
    (goal.iterator-loop-key).is_finite l.key-iterator ×
    (misfit l.place (members_view l.key-iterator)
    ≡ misfit l.place (members_view l.table.entries))
