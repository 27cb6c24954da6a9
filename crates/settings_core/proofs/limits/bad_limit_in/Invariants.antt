use Rattle.std.proofs.Common.{◌≡◌}
use Rattle.toml.specs.View.{members_view}
use Rattle.settings_core.specs.Limits.{bad_limit_in}
use Rattle.settings_core.proofs.limits.bad_limit_in.Given as goal

abbrev pub invariant-loop-name : goal.invariant-loop-name
invariant-loop-name l =
    (goal.iterator-loop-name).can_next l.name-iterator ×
    (goal.iterator-loop-name).is_finite l.name-iterator ×
    (bad_limit_in (members_view l.name-iterator) ≡ bad_limit_in (members_view l.levels.entries))
