-- The text of how much each owner has to do.
use Rattle.std.specs.Prelude.{ℕ, List, ◌++◌, codes, decimal}
use Rattle.std.specs.List.{flat_map, sum_by}
use Rattle.desk_model.specs.declared.answer.Load.{Load}
use Rattle.desk_texts.specs.Columns.{left, right, then}
use Rattle.desk_texts.specs.Words.{or_nobody}

-- a line of these columns: the header and the last line have the same ones as the rows
unfoldable pub columns : List ℕ → List ℕ → List ℕ → List ℕ
columns owner live overdue =
    then (left 20 owner) (then (right 7 live) (right 7 overdue ++ codes "\n"))

abbrev pub header : List ℕ
header = columns (codes "owner") (codes "open") (codes "overdue")

-- a line with these two numbers
abbrev pub line : List ℕ → ℕ → ℕ → List ℕ
line owner live overdue = columns owner (decimal live) (decimal overdue)

abbrev pub line_of_owner : Load → List ℕ
line_of_owner load = line (or_nobody load.owner) load.live load.overdue

-- what all owners have that isn't inactive, and what of it is late
abbrev pub all_live : List Load → ℕ
all_live loads = sum_by (λ load. load.live) loads

abbrev pub all_overdue : List Load → ℕ
all_overdue loads = sum_by (λ load. load.overdue) loads

-- the header, a line for each owner, and a line with the sums of both columns
abbrev pub workload_text : List Load → List ℕ
workload_text loads =
    header
    ++ (flat_map line_of_owner loads
    ++ line (codes "Total") (all_live loads) (all_overdue loads))
