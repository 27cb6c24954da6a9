use Rattle.std.proofs.Common.{◌≡◌, ◌++◌}
use Rattle.toml.specs.View.{members_view}
use Rattle.settings_parts.specs.PeopleParts.{tokens_in}
use Rattle.settings_parts.proofs.people.tokens_in.Given as goal

abbrev pub invariant-loop-token : goal.invariant-loop-token
invariant-loop-token l =
    (goal.iterator-loop-token).can_next l.token-iterator ×
    (goal.iterator-loop-token).is_finite l.token-iterator ×
    (l.found.items ++ tokens_in (members_view l.token-iterator)
    ≡ tokens_in (members_view l.table.entries))
