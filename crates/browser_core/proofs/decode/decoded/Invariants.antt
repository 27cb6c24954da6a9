-- behind the bytes so far, what is left stands for what all stand for
use Rattle.std.proofs.Common.{◌≡◌, ◌++◌, length, option_map}
use Rattle.browser_core.specs.Form.{decoded}
use Rattle.browser_core.proofs.decode.decoded.Given as goal

abbrev pub invariant-loop-left : goal.invariant-loop-left
invariant-loop-left l =
    option_map (λ more. l.out.items ++ more) (decoded l.left) ≡ decoded l.bytes

abbrev pub decreases-loop-left : goal.decreases-loop-left
decreases-loop-left l = length l.left
