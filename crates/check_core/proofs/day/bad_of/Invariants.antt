use Rattle.std.proofs.Common.{◌≡◌}
use Rattle.check_core.proofs.day.bad_of.Given as goal

abbrev pub invariant-loop-value : goal.invariant-loop-value
invariant-loop-value l = l.number ≡ l.value-index
