use Rattle.std.proofs.Common.{◌≡◌, ◌+◌, drop}
use Rattle.toml.specs.View.{items_view}
use Rattle.settings_places.specs.Grants.{table_among}
use Rattle.settings_places.proofs.grants.table_among.Given as goal

abbrev pub invariant-loop-value : goal.invariant-loop-value
invariant-loop-value l =
    (l.number ≡ l.value-index)
    × (table_among (l.number + 1) l.left (items_view (drop l.value-index l.list.items))
    ≡ table_among 1 l.index (items_view l.list.items))
