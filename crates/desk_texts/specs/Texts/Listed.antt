-- The text of a list of requests.
use Rattle.std.specs.Prelude.{ℕ, List, ◌++◌, codes, decimal}
use Rattle.std.specs.List.{flat_map}
use Rattle.desk_model.specs.declared.answer.Line.{Line}
use Rattle.desk_texts.specs.Columns.{left, right, then}
use Rattle.desk_texts.specs.Words.{minute_or_dash, or_nobody}

-- a line of these columns: the header has the same ones as the rows
unfoldable pub columns : List ℕ → List ℕ → List ℕ → List ℕ → List ℕ → List ℕ
columns id status owner due subject =
    then (right 7 id)
    (then (left 20 status) (then (left 20 owner) (then (left 16 due) (subject ++ codes "\n"))))

abbrev pub header : List ℕ
header = columns (codes "id") (codes "status") (codes "owner") (codes "due") (codes "subject")

abbrev pub line_of_request : Line → List ℕ
line_of_request request =
    columns (decimal request.id) request.status (or_nobody request.owner)
    (minute_or_dash request.due) request.subject

-- the header, and a line for each request
abbrev pub list_text : List Line → List ℕ
list_text requests = header ++ flat_map line_of_request requests
