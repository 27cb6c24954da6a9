use Rattle.std.proofs.Common.{◌≡◌, drop}
use Rattle.lifecycle_core.specs.Fault.{repeats_pair}
use Rattle.lifecycle_core.proofs.pairs.repeats_in_walk.Given as goal

abbrev pub invariant-loop-i : goal.invariant-loop-i
invariant-loop-i l = repeats_pair l.rights ≡ repeats_pair (drop l.i l.rights)
