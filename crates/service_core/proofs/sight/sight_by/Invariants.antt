use Rattle.std.proofs.Common.{take}
use Rattle.std.specs.List.{list_any}
use Rattle.service_core.specs.QueueVisibility.{IsSight, lets_see}
use Rattle.service_core.proofs.sight.sight_by.Given as goal

abbrev pub invariant-loop-grant : goal.invariant-loop-grant
invariant-loop-grant l = IsSight l.sight
    (λ name. list_any (lets_see l.people l.person name) (take l.grant-index l.grants))
