use Rattle.std.proofs.Common.{take}
use Rattle.rights_core.specs.Index.{IsGrantsByRight}
use Rattle.rights_core.proofs.grants.by_right.Given as goal

abbrev pub invariant-loop-grant : goal.invariant-loop-grant
invariant-loop-grant l = IsGrantsByRight (take l.grant-index l.grants) l.kept
