-- Where a path leads: it is laid against the rows of the table.
use Rattle.std.specs.Prelude.{ℕ, ◌==◌, Bool, true, false, List, [], ◌∷◌, codes}
use Rattle.std.specs.Prelude.{Option, Some, None, if◌then◌else◌, length}
use Rattle.std.specs.Borrow.{Bor}
use Rattle.std.specs.Option.{option_and_then, option_map, option_or}
use Rattle.std.specs.Str.{bytes_eq}
use Rattle.desk_forms.specs.Number.{number_of}
use Rattle.desk_forms.specs.Paths.{PathParameter, InQueue, Nothing, OnRequest, Part, Row, bound_of, id, lit}
use Rattle.desk_forms.specs.Paths.{queue}
use Rattle.desk_forms.specs.declared.paths.PathParameter.{PathParameter as BoundInCode}
use Rattle.desk_forms.specs.declared.paths.Method.{Method}
use Rattle.desk_forms.specs.declared.paths.Method.TheVariants.{Get, Post}
use Rattle.desk_forms.specs.declared.table.CommandForm.{CommandForm}
use Rattle.route_core.specs.Cuts.{cut, text_in}
use Rattle.route_core.specs.declared.places.Place.{Place as PlaceInCode}

-- ---- a path laid against parts

-- what the parts name so far, with this text at a part, if it may stand there
abbrev pub bound_to : Part → List ℕ → PathParameter → Option PathParameter
bound_to (lit here) text b = if bytes_eq text here then Some b else None
bound_to queue text b = if length text == 0 then None else Some (InQueue text)
bound_to id text b = option_map OnRequest (number_of text)

abbrev pub bound_if_text : Part → Option (List ℕ) → PathParameter → Option PathParameter
bound_if_text part None b = None
bound_if_text part (Some text) b = bound_to part text b

-- what is left of a path, if anything, and what its parts have named so far
abbrev pub Standing : Type 0
Standing = Option (List ℕ) × PathParameter

-- behind one more part, if that may stand there
abbrev pub behind : Part → Standing → Option Standing
behind part (None, b) = None
behind part (Some path, b) =
    let c = cut 47 path in option_map (λ next. (c.1, next)) (bound_if_text part (text_in c.0) b)

-- what is named, where nothing is left
abbrev pub ended : Standing → Option PathParameter
ended (None, b) = Some b
ended (Some rest, b) = None

-- what the parts of a path name, where they are just these
abbrev pub bound_by : List Part → Standing → Option PathParameter
bound_by [] at = ended at
bound_by (part ∷ parts) at = option_and_then (bound_by parts) (behind part at)

-- the same of a path, which begins with a slash
abbrev pub bound_at : List Part → List ℕ → Option PathParameter
bound_at parts [] = None
bound_at parts (b ∷ path) = if b == 47 then bound_by parts (Some path, Nothing) else None

-- ---- the place of a method and a path

abbrev pub is_method : Method → Method → Bool
is_method Get Get = true
is_method Post Post = true
is_method a b = false

-- a method, the form of a command, and what a path names for it
pub record Place : Type 0 where
  pub method : Method
  pub leads : CommandForm
  pub bound : PathParameter

abbrev pub at : Row → PathParameter → Place
at row b = record { method = row.method; leads = row.leads; bound = b }

abbrev pub place_on : Row → Method → List ℕ → Option Place
place_on row method path =
    if is_method row.method method then option_map (at row) (bound_at row.parts path) else None

-- by the first of the rows that has both
abbrev pub place_at : List Row → Method → List ℕ → Option Place
place_at [] method path = None
place_at (row ∷ rows) method path =
    option_or (place_on row method path) (place_at rows method path)

abbrev pub method_named : List ℕ → Option Method
method_named name =
    if bytes_eq name (codes "GET") then Some Get
    else if bytes_eq name (codes "POST") then Some Post
    else None

-- ---- the same as the code holds it

abbrev pub standing_of : Option (Bor (List ℕ)) × BoundInCode → Standing
standing_of at = (option_map (λ r. r.now) at.0, bound_of at.1)

abbrev pub place_in : PlaceInCode → Place
place_in p = record { method = p.method; leads = p.leads; bound = bound_of p.bound }
