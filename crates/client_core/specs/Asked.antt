-- What a message says of a command, to one who reads it by the table.
use Rattle.std.specs.Prelude.{◌≡◌, ◌<◌, ◌^◌, ℕ, Bool, true, false, List, [], ◌∷◌, length, Some}
use Rattle.text_core.specs.Form.{is_name}
use Rattle.desk_forms.specs.Paths.{Part, Row, id, lit, queue}
use Rattle.desk_forms.specs.Table.{build_command, paths}
use Rattle.desk_forms.specs.Arguments.{Arguments}
use Rattle.route_core.specs.Commands.{said}
use Rattle.route_core.specs.Places.{at}
use Rattle.client_core.specs.Body.{Writes}
use Rattle.client_core.specs.Spelled.{row_at}
use Rattle.client_core.specs.Target.{named}

abbrev pub has_queue : List Part → Bool
has_queue [] = false
has_queue (queue ∷ parts) = true
has_queue (lit here ∷ parts) = has_queue parts
has_queue (id ∷ parts) = has_queue parts

-- a queue in the path has a name, numbers are small, and no flag is set
pub record CanTell (row : Row) (v : Arguments) : Type 0 where
  pub name : has_queue row.parts ≡ true → is_name v.queue ≡ true
  pub other : v.other < 2 ^ 32
  pub plain : v.delete ≡ false

-- what is written for a row is read at it as the command that its values make
abbrev pub SaysWhatIsMade : Type 0
SaysWhatIsMade =
    (place : ℕ) (v : Arguments) (many : List (List ℕ)) (content : List ℕ) → place < length paths
    → CanTell (row_at place) v → Writes (row_at place) v many content
    → said (at (row_at place) (named (row_at place).parts v)) content
    ≡ Some (build_command (row_at place).leads v many)
