-- A table of requests that were found.
use Rattle.std.specs.Prelude.{ℕ, ◌-◌, nat_lt, Bool, false, List, [], ◌∷◌, ◌++◌, length, map}
use Rattle.std.specs.Prelude.{Option, Some, None, is_none, is_some, codes, decimal}
use Rattle.std.specs.List.{flat_map}
use Rattle.std.specs.Str.{bytes_eq}
use Rattle.lifecycle_core.specs.declared.lifecycle.Class.{Class}
use Rattle.lifecycle_core.specs.declared.lifecycle.Class.TheVariants as class
use Rattle.desk_model.specs.declared.rows.Turn.{Turn}
use Rattle.desk_model.specs.declared.rows.Turn.TheVariants as turn
use Rattle.desk_texts.specs.Words.{or_nobody}
use Rattle.find_core.specs.declared.search.Found.{Found}
use Rattle.page_core.specs.Page.{Part}
use Rattle.page_core.specs.Template.{filled}
use Rattle.page_core.specs.Values.{clock, day, span}
use Rattle.desk_pages.specs.Pieces.{table_end, time_or_dash}
use Rattle.desk_pages.specs.declared.rows.TheConstants.{FOR_NOBODY}
use Rattle.desk_pages.specs.declared.markup.rows.TheConstants.{ASKING, ROW_CELLS, ROW_END}
use Rattle.desk_pages.specs.declared.markup.rows.TheConstants.{ROW_TOP, TABLE_TOP}

-- whether the caller owns it
abbrev pub is_of : List ℕ → Option (List ℕ) → Bool
is_of caller None = false
is_of caller (Some owner) = bytes_eq owner caller

-- whether it was due before
abbrev pub is_late : ℕ → Option ℕ → Bool
is_late moment None = false
is_late moment (Some due) = nat_lt due moment

-- for how many minutes it has been late
abbrev pub late_by : ℕ → Option ℕ → ℕ
late_by moment None = 0
late_by moment (Some due) = moment - due

-- the word for the class of a status; none where the lifecycle hasn't the status
abbrev pub word_of_class : Option Class → List ℕ
word_of_class None = []
word_of_class (Some class.Initial) = codes "initial"
word_of_class (Some class.Active) = codes "active"
word_of_class (Some class.Inactive) = codes "inactive"

-- for whom a request waits; one that is closed waits for nobody
abbrev pub waits_for : Option Class → Turn → List ℕ
waits_for (Some class.Inactive) turn = FOR_NOBODY.now
waits_for other turn.Desk = codes "the desk"
waits_for other turn.Requestor = codes "who asked"

-- its number and its subject; whose it is, and whether it is late, are classes of the row
unfoldable pub row_top : List ℕ → Bool → Found → List Part
row_top caller late found =
    filled ROW_TOP.now
    (word_of_class found.class ∷ decimal found.id ∷ decimal found.id ∷ found.subject ∷ [])
    (is_of caller found.owner ∷ is_none found.owner ∷ late ∷ [])

-- one of its requestors
unfoldable pub asking : List ℕ → List Part
asking person = filled ASKING.now (person ∷ []) []

-- its queue, its status, for whom it waits, and its owner
unfoldable pub cells : Found → List Part
cells found =
    filled ROW_CELLS.now
    (found.queue ∷ word_of_class found.class ∷ found.status ∷ waits_for found.class found.turn
    ∷ or_nobody found.owner ∷ []) []

-- what follows its due moment: whether it is late, and for how long, and when its last entry was made
unfoldable pub row_end : Bool → ℕ → ℕ → List Part
row_end late by last =
    filled ROW_END.now (span by ∷ day last ∷ clock last ∷ day last ∷ clock last ∷ []) (late ∷ [])

-- a row, for a caller at a moment
unfoldable pub row : List ℕ → ℕ → Found → List Part
row caller moment found =
    row_top caller (is_late moment found.due) found
    ++ (flat_map asking found.requestors
    ++ (cells found
    ++ (time_or_dash found.due ++ row_end (is_late moment found.due) (late_by moment found.due) found.last)))

-- the table of these, which is called so
unfoldable pub table : List ℕ → List ℕ → ℕ → List Found → List Part
table caption caller moment rows =
    filled TABLE_TOP.now (caption ∷ []) [] ++ (flat_map (row caller moment) rows ++ table_end)

-- what the markup of a row tells: how many requestors there are, whether it is due, and whether it is
-- late
abbrev pub row_told : ℕ → Found → ℕ × Bool × Bool
row_told moment found =
    (length found.requestors, is_some found.due, is_late moment found.due)

abbrev pub rows_told : ℕ → List Found → List (ℕ × Bool × Bool)
rows_told moment rows = map (row_told moment) rows
