use Rattle.std.proofs.Common.{◌≡◌, length}
use Rattle.browser_core.specs.Form.{are_once}
use Rattle.browser_core.proofs.form.are_once.Given as goal

abbrev pub invariant-loop-left : goal.invariant-loop-left
invariant-loop-left l = are_once l.left ≡ are_once l.fields

abbrev pub decreases-loop-left : goal.decreases-loop-left
decreases-loop-left l = length l.left
