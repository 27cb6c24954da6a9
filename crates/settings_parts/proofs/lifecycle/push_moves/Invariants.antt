use Rattle.std.proofs.Common.{◌≡◌, ◌++◌, drop, map}
use Rattle.lifecycle_core.specs.Standard.{move_to}
use Rattle.settings_parts.proofs.lifecycle.push_moves.Given as goal

abbrev pub invariant-loop-to : goal.invariant-loop-to
invariant-loop-to l =
    l.found.items ++ map (move_to l.from) (drop l.to-index l.statuses)
    ≡ l.fn.found.items ++ map (move_to l.from) l.statuses
