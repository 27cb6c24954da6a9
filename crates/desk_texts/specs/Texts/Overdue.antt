-- The text of a list of late requests.
use Rattle.std.specs.Prelude.{ℕ, List, ◌++◌, codes, decimal}
use Rattle.std.specs.List.{flat_map}
use Rattle.hours_core.specs.Date.{text_of_minute}
use Rattle.desk_model.specs.declared.answer.LateLine.{LateLine}
use Rattle.desk_texts.specs.Columns.{left, right, then}
use Rattle.desk_texts.specs.Words.{or_nobody}

-- a line of these columns: the header has the same ones as the rows
unfoldable pub columns : List ℕ → List ℕ → List ℕ → List ℕ → List ℕ → List ℕ
columns id queue owner due late =
    then (right 7 id)
    (then (left 20 queue) (then (left 20 owner) (then (left 16 due) (right 8 late ++ codes "\n"))))

abbrev pub header : List ℕ
header = columns (codes "id") (codes "queue") (codes "owner") (codes "due") (codes "late")

unfoldable pub line_of_request : LateLine → List ℕ
line_of_request request =
    columns (decimal request.id) request.queue (or_nobody request.owner)
    (text_of_minute request.due) (decimal request.late)

-- the header, and a line for each request
abbrev pub overdue_text : List LateLine → List ℕ
overdue_text requests = header ++ flat_map line_of_request requests
