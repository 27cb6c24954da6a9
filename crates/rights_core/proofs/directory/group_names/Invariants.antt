use Rattle.std.proofs.Common.{◌≡◌, take}
use Rattle.rights_core.specs.RightsFaults.{group_names}
use Rattle.rights_core.proofs.directory.group_names.Given as goal

abbrev pub invariant-loop-group : goal.invariant-loop-group
invariant-loop-group l = l.names.items ≡ group_names (take l.group-index l.groups)
