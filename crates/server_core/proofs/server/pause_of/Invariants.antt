-- what the others lead to is what all do
use Rattle.std.proofs.Common.{◌≡◌, drop}
use Rattle.server_core.specs.Places.{conns}
use Rattle.server_core.specs.Wait.{begins, is_full, pauses}
use Rattle.server_core.proofs.server.pause_of.Given as goal

abbrev pub invariant-loop-place : goal.invariant-loop-place
invariant-loop-place g l =
    pauses (is_full l.fn.queue) l.now l.pause (drop l.place (conns l.slots)) (drop l.place l.marks)
    ≡ pauses (is_full l.fn.queue) l.now (begins l.fn.queue) (conns l.slots) l.marks
