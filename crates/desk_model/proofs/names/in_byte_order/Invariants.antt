-- the names so far, in order
use Rattle.std.proofs.Common.{◌≡◌, take}
use Rattle.desk_model.specs.Names.{in_order}
use Rattle.desk_model.proofs.names.in_byte_order.Given as goal

abbrev pub invariant-loop-name : goal.invariant-loop-name
invariant-loop-name l = l.once.keys ≡ in_order (take l.name-index l.names)
