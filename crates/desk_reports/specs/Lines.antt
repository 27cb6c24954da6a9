-- The texts of which a list is made that is written row by row.
use Rattle.std.specs.Prelude.{ℕ, [], ◌++◌, List}
use Rattle.std.specs.List.{flat_map}
use Rattle.std.specs.Option.{option_map_or}
use Rattle.settings_core.specs.declared.settings.Settings.{Settings}
use Rattle.desk_model.specs.declared.rows.Watcher.{Watcher}
use Rattle.report_core.specs.Rows.{late_line_shown, line_shown}
use Rattle.desk_texts.specs.Texts.Listed as listed
use Rattle.desk_texts.specs.Texts.Overdue as overdue
use Rattle.store_tables.specs.Contents.Request.{Dated}
use Rattle.desk_reports.specs.declared.lines.ListKind.{ListKind}
use Rattle.desk_reports.specs.declared.lines.ListKind.TheVariants.{OfQueue, Overdue}

abbrev pub header_of : ListKind → List ℕ
header_of OfQueue = listed.header
header_of (Overdue at) = overdue.header

-- the line of a row, if the person may show it by these watches, and else nothing
abbrev pub row_of_queue : Settings → List ℕ → List Watcher → Dated → List ℕ
row_of_queue settings person watches dated =
    option_map_or listed.line_of_request (line_shown settings person watches dated) []

-- the same, if it is late
abbrev pub late_row : ℕ → Settings → List ℕ → List Watcher → Dated → List ℕ
late_row at settings person watches dated =
    option_map_or overdue.line_of_request (late_line_shown at settings person watches dated) []

-- what a list of this kind has of a row
abbrev pub row_in : ListKind → Settings → List ℕ → List Watcher → Dated → List ℕ
row_in OfQueue = row_of_queue
row_in (Overdue at) = late_row at

-- and of rows, one after another
abbrev pub rows_in : ListKind → Settings → List ℕ → List Watcher → List Dated → List ℕ
rows_in kind settings person watches rows = flat_map (row_in kind settings person watches) rows

-- the list whole
abbrev pub list_in : ListKind → Settings → List ℕ → List Watcher → List Dated → List ℕ
list_in kind settings person watches rows =
    header_of kind ++ rows_in kind settings person watches rows
