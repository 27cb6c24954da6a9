-- what stands behind the end is blank
use Rattle.std.proofs.Common.{◌≡◌, ◌≤◌, length, take}
use Rattle.browser_core.specs.Trim.{without_back}
use Rattle.browser_core.proofs.trim.without_back.Given as goal

abbrev pub invariant-loop-end : goal.invariant-loop-end
invariant-loop-end l = record {
  within : l.end ≤ length l.bytes;
  same : without_back (take l.end l.bytes) ≡ without_back l.bytes;
}

abbrev pub decreases-loop-end : goal.decreases-loop-end
decreases-loop-end l = l.end
