-- No two rows of the table have a path in common.
use Rattle.std.specs.Prelude.{◌≡◌, ◌<◌, ℕ, Bool, true, false, ◌||◌, ◌&&◌, List, [], ◌∷◌, Some}
use Rattle.std.specs.Prelude.{if◌then◌else◌, length, get_or}
use Rattle.std.specs.List.{list_all}
use Rattle.std.specs.Str.{bytes_eq}
use Rattle.desk_forms.specs.Paths.{Part, Row, lit}
use Rattle.desk_forms.specs.Table.{paths}
use Rattle.desk_forms.specs.declared.paths.Method.{Method}
use Rattle.route_core.specs.Places.{Place, is_method, place_at, place_on}

-- no text may stand at both parts
abbrev pub differs : Part → Part → Bool
differs (lit a) (lit b) = if bytes_eq a b then false else true
differs _ _ = false

-- no path has all of both
abbrev pub apart : List Part → List Part → Bool
apart [] [] = false
apart [] (q ∷ qs) = true
apart (p ∷ ps) [] = true
apart (p ∷ ps) (q ∷ qs) = differs p q || apart ps qs

abbrev pub are_apart : Row → Row → Bool
are_apart r s = if is_method r.method s.method then apart r.parts s.parts else true

abbrev pub each_apart : List Row → Bool
each_apart [] = true
each_apart (r ∷ rows) = list_all (are_apart r) rows && each_apart rows

-- a row that has the method and the path is the one at which they are found
abbrev pub OneRowHasAPath : Type 0
OneRowHasAPath =
    (method : Method) (path : List ℕ) (i : ℕ) (d : Row) (place : Place) → i < length paths
    → place_on (get_or paths i d) method path ≡ Some place
    → place_at paths method path ≡ Some place
