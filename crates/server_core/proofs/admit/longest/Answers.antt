-- one more was looked at
use Rattle.std.proofs.Common.{arith}
use Rattle.server_core.proofs.WaitLemmas.{longest_then}
use Rattle.server_core.proofs.admit.longest.Goals as goal

pub loop-place-preserved : goal.loop-place-preserved
loop-place-preserved g c =
    longest_then c.args.kind c.args.slots.now c.loop-place.best c.longer-best.result c.loop-place.place
    c.index-slots-place.result (omega (arith, c.loop-place-test.true)) c.longer-best.ensures
    c.loop-place.invariant
