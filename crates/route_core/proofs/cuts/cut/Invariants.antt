-- no stop so far
use Rattle.std.proofs.Common.{◌≡◌, take, drop}
use Rattle.route_core.specs.Cuts.{cut, onto}
use Rattle.route_core.proofs.cuts.cut.Given as goal

abbrev pub invariant-loop-place : goal.invariant-loop-place
invariant-loop-place l =
    cut l.stop l.bytes ≡ onto (take l.place l.bytes) (cut l.stop (drop l.place l.bytes))
