use Rattle.std.proofs.Common.{◌≡◌, false, take}
use Rattle.lifecycle_core.specs.Fault.{repeats_pair}
use Rattle.lifecycle_core.specs.Pairs.{ArePairsOf}
use Rattle.lifecycle_core.proofs.pairs.repeats_in_set.Given as goal

abbrev pub invariant-loop-entry : goal.invariant-loop-entry
invariant-loop-entry l = record {
  once : repeats_pair (take l.entry-index l.rights) ≡ false;
  pairs : ArePairsOf (take l.entry-index l.rights) l.pairs;
}
