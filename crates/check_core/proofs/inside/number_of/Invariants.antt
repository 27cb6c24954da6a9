use Rattle.std.proofs.Common.{◌≡◌, drop}
use Rattle.toml.specs.View.{items_view}
use Rattle.check_core.specs.Inside.{number_from, number_of}
use Rattle.check_core.proofs.inside.number_of.Given as goal

abbrev pub invariant-loop-value : goal.invariant-loop-value
invariant-loop-value l =
    (l.number ≡ l.value-index)
    × (number_from l.number l.text l.after (items_view (drop l.value-index l.list.items))
    ≡ number_of l.text l.after (items_view l.list.items))
