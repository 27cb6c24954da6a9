-- the greatest so far, and that of those which are left
use Rattle.std.proofs.Common.{◌≡◌, drop, max}
use Rattle.desk_pages.specs.Workload.{most}
use Rattle.desk_pages.proofs.workload.most.Given as goal

abbrev pub invariant-loop-load : goal.invariant-loop-load
invariant-loop-load l = max l.most (most (drop l.load-index l.loads)) ≡ most l.loads
