-- the texts so far and those of the items that are left are those of all
use Rattle.std.proofs.Common.{◌≡◌, ◌++◌, drop, option_map}
use Rattle.serde_json.specs.View.{items_view}
use Rattle.route_core.specs.Members.{texts_in}
use Rattle.route_core.proofs.members.texts_in.Given as goal

abbrev pub invariant-loop-value : goal.invariant-loop-value
invariant-loop-value l =
    option_map (λ more. l.texts.items ++ more)
    (texts_in (items_view (drop l.value-index l.items)))
    ≡ texts_in (items_view l.items)
