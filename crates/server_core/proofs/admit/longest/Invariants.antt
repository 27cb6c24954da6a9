-- the one so far has waited longest of those so far
use Rattle.std.proofs.Common.{take}
use Rattle.server_core.specs.Places.{conns}
use Rattle.server_core.specs.Wait.{IsLongest}
use Rattle.server_core.proofs.admit.longest.Given as goal

abbrev pub invariant-loop-place : goal.invariant-loop-place
invariant-loop-place g l = IsLongest l.kind l.best (take l.place (conns l.slots))
