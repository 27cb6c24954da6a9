-- The path of a row of the table, with what a command's values say at its parts.
use Rattle.std.specs.Prelude.{ℕ, List, [], ◌∷◌, ◌++◌, codes, decimal, if◌then◌else◌}
use Rattle.text_core.specs.Form.{is_name}
use Rattle.desk_forms.specs.Paths.{PathParameter, InQueue, Nothing, OnRequest, Part, id, lit, queue}
use Rattle.desk_forms.specs.Arguments.{Arguments}

-- a queue by its name; what can be no name is told as `%`, which is none either
abbrev pub queue_text : List ℕ → List ℕ
queue_text name = if is_name name then name else codes "%"

abbrev pub part_text : Part → Arguments → List ℕ
part_text (lit here) v = here
part_text queue v = queue_text v.queue
part_text id v = decimal v.id

-- each part after a slash
abbrev pub target : List Part → Arguments → List ℕ
target [] v = []
target (part ∷ parts) v = 47 ∷ (part_text part v ++ target parts v)

-- what these parts name
abbrev pub named : List Part → Arguments → PathParameter
named [] v = Nothing
named (lit here ∷ parts) v = named parts v
named (queue ∷ parts) v = InQueue (queue_text v.queue)
named (id ∷ parts) v = OnRequest v.id
