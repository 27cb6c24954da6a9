use Rattle.std.proofs.Common.{◌≡◌, ◌++◌, take}
use Rattle.lifecycle_core.specs.Standard.{moves_from}
use Rattle.lifecycle_core.proofs.standard.add_moves.Given as goal

abbrev pub invariant-loop-to : goal.invariant-loop-to
invariant-loop-to l =
    l.moves.items ≡ l.fn.moves.items ++ moves_from (take l.to-index l.statuses) l.from
