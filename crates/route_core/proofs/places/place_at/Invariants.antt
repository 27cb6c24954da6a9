use Rattle.std.proofs.Common.{◌≡◌, map, drop}
use Rattle.desk_forms.specs.Paths.{path_of}
use Rattle.route_core.specs.Places.{place_at}
use Rattle.route_core.proofs.places.place_at.Given as goal

abbrev pub invariant-loop-row : goal.invariant-loop-row
invariant-loop-row l =
    place_at (map path_of (drop l.row-index l.rows)) l.method l.path
    ≡ place_at (map path_of l.rows) l.method l.path
