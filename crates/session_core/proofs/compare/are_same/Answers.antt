-- a turn looks at one more pair
use Rattle.std.proofs.Common.{arith}
use Rattle.session_core.proofs.Differences.{one_turn}
use Rattle.session_core.proofs.compare.are_same.Goals as goal

pub loop-i-preserved : goal.loop-i-preserved
loop-i-preserved c =
    one_turn c.loop-i.difference c.loop-i.i c.args.one.now c.args.other.now _ (omega arith) (omega arith)
    c.loop-i.invariant
