use Rattle.std.proofs.Common.{◌≡◌}
use Rattle.check_core.proofs.Searching.{KindsLeft}
use Rattle.check_core.proofs.bad_rows.misfit.Given as goal

abbrev pub invariant-loop-kind : goal.invariant-loop-kind
invariant-loop-kind l = (l.at ≡ l.kind-index) × KindsLeft l.kinds l.row l.kind-index
