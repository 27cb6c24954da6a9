-- The paths at which commands are asked for, and what a path names.
use Rattle.std.specs.Prelude.{ℕ, List, map}
use Rattle.desk_forms.specs.declared.table.CommandForm.{CommandForm}
use Rattle.desk_forms.specs.declared.paths.PathParameter.{PathParameter as BoundInCode}
use Rattle.desk_forms.specs.declared.paths.PathParameter.TheVariants as bound
use Rattle.desk_forms.specs.declared.paths.Method.{Method}
use Rattle.desk_forms.specs.declared.paths.Method.TheVariants.{Get, Post}
use Rattle.desk_forms.specs.declared.paths.Part.{Part as PartInCode}
use Rattle.desk_forms.specs.declared.paths.Part.TheVariants as part
use Rattle.desk_forms.specs.declared.paths.Path.{Path as PathInCode}

-- a part of a path between slashes: a text, a queue's name, or a request's number
pub data Part : Type 0 where
  lit : List ℕ → Part
  queue : Part
  id : Part

-- what the parts of a path name
pub data PathParameter : Type 0 where
  Nothing : PathParameter
  InQueue : List ℕ → PathParameter
  OnRequest : ℕ → PathParameter

-- a method, a path, and the form of the command for which they ask
pub record Row : Type 0 where
  pub method : Method
  pub parts : List Part
  pub leads : CommandForm

abbrev pub get : List Part → CommandForm → Row
get parts leads = record { method = Get; parts = parts; leads = leads }

abbrev pub post : List Part → CommandForm → Row
post parts leads = record { method = Post; parts = parts; leads = leads }

-- ---- the same as the code holds it

abbrev pub part_of : PartInCode → Part
part_of (part.Lit text) = lit text.now
part_of part.Queue = queue
part_of part.Id = id

abbrev pub bound_of : BoundInCode → PathParameter
bound_of bound.Nothing = Nothing
bound_of (bound.Queue name) = InQueue name.now
bound_of (bound.Request n) = OnRequest n

abbrev pub path_of : PathInCode → Row
path_of p = record { method = p.0; parts = map part_of p.1.now; leads = p.2 }
