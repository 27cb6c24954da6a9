use Rattle.std.proofs.Common.{◌≡◌, pos, drop}
use Rattle.hours_core.specs.Zone as spec
use Rattle.hours_core.proofs.zone.are_in_order.Given as goal

-- what is left decides
abbrev pub invariant-loop-change : goal.invariant-loop-change
invariant-loop-change l =
    spec.are_in_order l.earliest (drop l.change-index l.changes)
    ≡ spec.are_in_order (pos 0) l.changes
