-- with the parts that are left, what is named so far comes to what all name
use Rattle.std.proofs.Common.{◌≡◌, map, drop, Some}
use Rattle.desk_forms.specs.Paths.{Nothing, part_of}
use Rattle.route_core.specs.Places.{bound_by, standing_of}
use Rattle.route_core.proofs.places.bound_by.Given as goal

abbrev pub invariant-loop-part : goal.invariant-loop-part
invariant-loop-part l =
    bound_by (map part_of (drop l.part-index l.parts)) (standing_of l.at)
    ≡ bound_by (map part_of l.parts) (Some l.path, Nothing)
