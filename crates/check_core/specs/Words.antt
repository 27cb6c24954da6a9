-- What is wrong with the rows of tables, in words for people.
use Rattle.std.specs.Prelude.{ℕ, List, ◌++◌, codes, get_or, [], if◌then◌else◌}
use Rattle.std.specs.Prelude.{Option, Some, None}
use Rattle.std.specs.Fmt.{decimal, signed_decimal}
use Rattle.std.specs.Str.{is_utf8}
use Rattle.sqlite.specs.Order.{Row, column}
use Rattle.sqlite.specs.declared.types.Value.{Value}
use Rattle.sqlite.specs.declared.types.Value.TheVariants as value
use Rattle.settings_places.specs.Told.{quoted, quoted_then}
use Rattle.check_core.specs.Columns.{names_of}
use Rattle.check_core.specs.Rows.{Unknown}
use Rattle.check_core.specs.Rows as rows
use Rattle.check_core.specs.declared.columns.Table.{Table}
use Rattle.check_core.specs.declared.columns.Table.TheVariants as table
use Rattle.check_core.specs.declared.rows.What.{What}
use Rattle.check_core.specs.declared.rows.What.TheVariants as what

-- ---- a name that the settings don't know

abbrev pub what_word : What → List ℕ
what_word what.Lifecycle = codes "lifecycle"
what_word what.Level = codes "level"
what_word what.Status = codes "status"
what_word what.Owner = codes "owner"
what_word what.Requestor = codes "requestor"
what_word what.Cc = codes "cc"
what_word what.AdminCc = codes "admincc"
what_word what.Actor = codes "person who made it"

abbrev pub request_text : ℕ → List ℕ
request_text id = codes "request " ++ decimal id

abbrev pub row_text : rows.Row → List ℕ
row_text (rows.in_queue name) = codes "queue " ++ quoted name
row_text (rows.in_request id) = request_text id
row_text (rows.in_entry id number) = request_text id ++ (codes ", entry " ++ decimal number)

abbrev pub unknown_text : Unknown → List ℕ
unknown_text found =
    row_text found.row
    ++ (codes ": the settings don't know the " ++ (what_word found.what
    ++ (codes " " ++ quoted found.name)))

-- ---- a row that is no value of its type

abbrev pub table_word : Table → List ℕ
table_word table.Request = codes "request"
table_word table.Queue = codes "queue"
table_word table.Stay = codes "stay"
table_word table.Link = codes "link"
table_word table.Entry = codes "entry"
table_word table.Watcher = codes "watcher"

-- bytes that are UTF-8, as a text
abbrev pub text_of : List ℕ → Option (List ℕ)
text_of bytes = if is_utf8 bytes then Some bytes else None

abbrev pub text_told : Option (List ℕ) → List ℕ
text_told (Some text) = quoted text
text_told None = codes "a text that isn't UTF-8"

-- a value of a column
abbrev pub value_text : Value → List ℕ
value_text value.Null = codes "nothing"
value_text (value.Int n) = signed_decimal n
value_text (value.Real x) = codes "a number with a point"
value_text (value.Text bytes) = text_told (text_of bytes)
value_text (value.Blob b) = codes "bytes"

abbrev pub name_at : Table → ℕ → List ℕ
name_at t at = get_or (names_of t) at []

-- a column's name and its value
abbrev pub cell_text : Table → Row → ℕ → List ℕ
cell_text t row at = name_at t at ++ (codes " " ++ value_text (column row at))

abbrev pub two_cells : Table → Row → List ℕ
two_cells t row = cell_text t row 0 ++ (codes ", " ++ cell_text t row 1)

-- the columns of the key
abbrev pub key_text : Table → Row → List ℕ
key_text table.Request row = cell_text table.Request row 0
key_text table.Queue row = cell_text table.Queue row 0
key_text table.Stay row = two_cells table.Stay row
key_text table.Entry row = two_cells table.Entry row
key_text table.Link row = two_cells table.Link row ++ (codes ", " ++ cell_text table.Link row 2)
key_text table.Watcher row =
    two_cells table.Watcher row ++ (codes ", " ++ cell_text table.Watcher row 2)

-- the table and the key, and then the column and what it has
abbrev pub bad_text : Table → Row → ℕ → List ℕ
bad_text t row at =
    codes "the table "
    ++ quoted_then (table_word t)
    (codes ", " ++ (key_text t row ++ (codes ": the column "
    ++ quoted_then (name_at t at)
    (codes " has " ++ (value_text (column row at) ++ codes ", no value of its type")))))
