-- each so far is
use Rattle.std.proofs.Common.{◌≡◌, take}
use Rattle.connection_core.specs.declared.phase.Phase.TheVariants.{Closed}
use Rattle.server_core.specs.Places.{Each, conns}
use Rattle.server_core.proofs.server.is_free.Given as goal

abbrev pub invariant-loop-place : goal.invariant-loop-place
invariant-loop-place g l = Each (λ c. c.phase ≡ Closed) (take l.place (conns l.slots))
