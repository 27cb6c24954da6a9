use Rattle.std.proofs.Common.{◌≡◌, ◌++◌, drop}
use Rattle.toml.specs.View.{items_view}
use Rattle.settings_parts.specs.Values.{pairs_in}
use Rattle.settings_parts.proofs.values.pairs_in.Given as goal

abbrev pub invariant-loop-value : goal.invariant-loop-value
invariant-loop-value l =
    l.found.items ++ pairs_in (items_view (drop l.value-index l.list.items))
    ≡ pairs_in (items_view l.list.items)
