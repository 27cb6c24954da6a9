-- what is left has the same behind its blanks
use Rattle.std.proofs.Common.{◌≡◌, length}
use Rattle.browser_core.specs.Trim.{without_front}
use Rattle.browser_core.proofs.trim.without_front.Given as goal

abbrev pub invariant-loop-left : goal.invariant-loop-left
invariant-loop-left l = without_front l.left ≡ without_front l.bytes

abbrev pub decreases-loop-left : goal.decreases-loop-left
decreases-loop-left l = length l.left
