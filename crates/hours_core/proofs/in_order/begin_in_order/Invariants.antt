use Rattle.std.proofs.Common.{◌≡◌, drop}
use Rattle.hours_core.specs.Pauses.{are_in_order}
use Rattle.hours_core.proofs.in_order.begin_in_order.Given as goal

-- what is left decides
abbrev pub invariant-loop-stay : goal.invariant-loop-stay
invariant-loop-stay l = are_in_order l.earliest (drop l.stay-index l.stays) ≡ are_in_order 0 l.stays
