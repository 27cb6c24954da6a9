-- each so far is
use Rattle.std.proofs.Common.{take}
use Rattle.server_core.specs.Places.{Each, conns}
use Rattle.server_core.specs.Served.{IsStill}
use Rattle.server_core.proofs.server.is_still.Given as goal

abbrev pub invariant-loop-place : goal.invariant-loop-place
invariant-loop-place g l = Each (λ c. IsStill c) (take l.place (conns l.slots))
