use Rattle.std.proofs.Common.{◌≡◌}
use Rattle.toml.specs.View.{members_view}
use Rattle.settings_places.specs.Parts.{bad_in}
use Rattle.settings_places.proofs.parts.bad_in.Given as goal

abbrev pub invariant-loop-name : goal.invariant-loop-name
invariant-loop-name g l =
    (goal.iterator-loop-name g).can_next l.name-iterator ×
    (goal.iterator-loop-name g).is_finite l.name-iterator ×
    (bad_in g.T.Stated.fault_of (members_view l.name-iterator)
    ≡ bad_in g.T.Stated.fault_of (members_view l.tables.entries))
