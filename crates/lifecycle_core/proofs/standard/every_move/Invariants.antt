use Rattle.std.proofs.Common.{◌≡◌, take}
use Rattle.std.specs.List.{flat_map}
use Rattle.lifecycle_core.specs.Standard.{moves_from}
use Rattle.lifecycle_core.proofs.standard.every_move.Given as goal

abbrev pub invariant-loop-from : goal.invariant-loop-from
invariant-loop-from l =
    l.moves.items ≡ flat_map (moves_from l.statuses) (take l.from-index l.statuses)
