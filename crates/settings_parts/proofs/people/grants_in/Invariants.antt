use Rattle.std.proofs.Common.{◌≡◌, ◌++◌, drop}
use Rattle.toml.specs.View.{items_view}
use Rattle.settings_parts.specs.PeopleParts.{grants_in}
use Rattle.settings_parts.proofs.people.grants_in.Given as goal

abbrev pub invariant-loop-value : goal.invariant-loop-value
invariant-loop-value l =
    l.found.items ++ grants_in (items_view (drop l.value-index l.list.items))
    ≡ grants_in (items_view l.list.items)
