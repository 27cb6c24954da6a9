use Rattle.std.proofs.Common.{◌≡◌, drop}
use Rattle.hours_core.specs.Zone as spec
use Rattle.hours_core.proofs.zone.offset_at.Given as goal

-- what is left decides
abbrev pub invariant-loop-change : goal.invariant-loop-change
invariant-loop-change l =
    spec.offset_at l.offset (drop l.change-index l.changes) l.m
    ≡ spec.offset_at l.initial.offset l.changes l.m
