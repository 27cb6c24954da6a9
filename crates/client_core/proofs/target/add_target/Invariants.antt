-- what is written so far, and the path of the parts that are left, are all
use Rattle.std.proofs.Common.{◌≡◌, ◌++◌, map, drop}
use Rattle.desk_forms.specs.Paths.{part_of}
use Rattle.desk_forms.specs.Arguments.{values_of}
use Rattle.client_core.specs.Target.{target}
use Rattle.client_core.proofs.target.add_target.Given as goal

abbrev pub invariant-loop-part : goal.invariant-loop-part
invariant-loop-part l =
    l.out.items ++ target (map part_of (drop l.part-index l.parts)) (values_of l.values)
    ≡ l.fn.out.items ++ target (map part_of l.parts) (values_of l.values)
