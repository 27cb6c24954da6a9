-- the parts that are left name what all do
use Rattle.std.proofs.Common.{◌≡◌, map, drop}
use Rattle.desk_forms.specs.Paths.{part_of}
use Rattle.desk_forms.specs.Arguments.{values_of}
use Rattle.client_core.specs.Target.{named}
use Rattle.client_core.proofs.target.named.Given as goal

abbrev pub invariant-loop-part : goal.invariant-loop-part
invariant-loop-part l =
    named (map part_of (drop l.part-index l.parts)) (values_of l.values)
    ≡ named (map part_of l.parts) (values_of l.values)
