-- The tables whose rows are tested before settings are attached: what is read of each, in which
-- order, and what stands in a column.
use Rattle.std.specs.Prelude.{◌≡◌, ◌≤◌, ℕ, List, [], ◌∷◌, ◌++◌, codes}
use Rattle.sqlite.specs.Order.{Row}
use Rattle.sqlite.specs.Schema.{Schema}
use Rattle.sqlite.specs.Term.{Term}
use Rattle.sqlite.specs.declared.types.Value.{Value}
use Rattle.store_tables.specs.Contents.{desk_schema, first_schema}
use Rattle.store_tables.specs.Contents.Entry.{IsBareEntry, bare_shown, entry}
use Rattle.store_tables.specs.Contents.Link.{IsLinkRow, link}
use Rattle.store_tables.specs.Contents.Queue.{IsQueueRow, queue, queue_order, queue_shown}
use Rattle.store_tables.specs.Contents.Request.{IsDatedRow, dated_shown_terms, request}
use Rattle.store_tables.specs.Contents.Stay.{IsStayRow, stay, stay_order, stay_shown}
use Rattle.store_tables.specs.Contents.Watcher.{IsWatcherRow, watcher}
use Rattle.store_tables.specs.Query.{id_order, three_order, three_shown}
use Rattle.store_tables.specs.Values.{IsMinute, IsMinuteOrNull, IsText, IsTextOrNull, count_value}
use Rattle.check_core.specs.declared.columns.Kind.{Kind}
use Rattle.check_core.specs.declared.columns.Kind.TheVariants as kind
use Rattle.check_core.specs.declared.columns.Table.{Table}
use Rattle.check_core.specs.declared.columns.Table.TheVariants as table
use Rattle.check_core.specs.declared.columns.Version.{Version}
use Rattle.check_core.specs.declared.columns.Version.TheVariants as version

-- in the order in which attaching reads them; version 1 has no stays
abbrev pub tables_of : Version → List Table
tables_of version.First =
    table.Request ∷ table.Queue ∷ table.Link ∷ table.Entry ∷ table.Watcher ∷ []
tables_of version.Present =
    table.Request ∷ table.Queue ∷ table.Stay ∷ table.Link ∷ table.Entry ∷ table.Watcher ∷ []

-- all tables of a version
abbrev pub schema_of : Version → Schema
schema_of version.First = first_schema
schema_of version.Present = desk_schema

-- the number of the tree in which a table's rows are kept
abbrev pub tree_of : Table → ℕ
tree_of table.Request = request.tree
tree_of table.Queue = queue.tree
tree_of table.Stay = stay.tree
tree_of table.Link = link.tree
tree_of table.Entry = entry.tree
tree_of table.Watcher = watcher.tree

-- the columns that are tested; of an entry its texts aren't
abbrev pub shown_of : Table → List Term
shown_of table.Request = dated_shown_terms
shown_of table.Queue = queue_shown
shown_of table.Stay = stay_shown
shown_of table.Link = three_shown
shown_of table.Entry = bare_shown
shown_of table.Watcher = three_shown

-- the columns of the key
abbrev pub key_of : Table → List Term
key_of table.Request = id_order
key_of table.Queue = queue_order
key_of table.Stay = stay_order
key_of table.Link = three_order
key_of table.Entry = stay_order
key_of table.Watcher = three_order

-- these columns are those of a value
abbrev pub IsValue : Table → Row → Type 0
IsValue table.Request = IsDatedRow
IsValue table.Queue = IsQueueRow
IsValue table.Stay = IsStayRow
IsValue table.Link = IsLinkRow
IsValue table.Entry = IsBareEntry
IsValue table.Watcher = IsWatcherRow

-- the statement that reads them by the key
abbrev pub statement_of : Table → List ℕ
statement_of table.Request =
    codes "SELECT id, queue, subject, status, owner, level, created, opened, turn, since, due "
    ++ codes "FROM request ORDER BY id"
statement_of table.Queue = codes "SELECT name, lifecycle, level FROM queue ORDER BY name"
statement_of table.Stay =
    codes "SELECT request, number, status, begun, ended FROM stay ORDER BY request, number"
statement_of table.Link =
    codes "SELECT source, kind, target FROM link ORDER BY source, kind, target"
statement_of table.Entry =
    codes "SELECT request, number, moment, actor, kind FROM entry ORDER BY request, number"
statement_of table.Watcher =
    codes "SELECT request, role, person FROM watcher ORDER BY request, role, person"

-- their names
abbrev pub names_of : Table → List (List ℕ)
names_of table.Request =
    codes "id" ∷ codes "queue" ∷ codes "subject" ∷ codes "status" ∷ codes "owner" ∷ codes "level"
    ∷ codes "created" ∷ codes "opened" ∷ codes "turn" ∷ codes "since" ∷ codes "due" ∷ []
names_of table.Queue = codes "name" ∷ codes "lifecycle" ∷ codes "level" ∷ []
names_of table.Stay =
    codes "request" ∷ codes "number" ∷ codes "status" ∷ codes "begun" ∷ codes "ended" ∷ []
names_of table.Link = codes "source" ∷ codes "kind" ∷ codes "target" ∷ []
names_of table.Entry =
    codes "request" ∷ codes "number" ∷ codes "moment" ∷ codes "actor" ∷ codes "kind" ∷ []
names_of table.Watcher = codes "request" ∷ codes "role" ∷ codes "person" ∷ []

-- any number of 32 bits
abbrev pub any_number : Kind
any_number = kind.Number 0 4294967295

-- what stands in each of them
abbrev pub kinds_of : Table → List Kind
kinds_of table.Request =
    any_number ∷ kind.Text ∷ kind.Text ∷ kind.Text ∷ kind.TextOrNone ∷ kind.TextOrNone
    ∷ kind.Minute ∷ kind.Minute ∷ kind.Number 0 1 ∷ kind.Minute ∷ kind.MinuteOrNone ∷ []
kinds_of table.Queue = kind.Text ∷ kind.Text ∷ kind.TextOrNone ∷ []
kinds_of table.Stay =
    any_number ∷ any_number ∷ kind.Text ∷ kind.Minute ∷ kind.MinuteOrNone ∷ []
kinds_of table.Link = any_number ∷ kind.Number 1 3 ∷ any_number ∷ []
kinds_of table.Entry =
    any_number ∷ any_number ∷ kind.Minute ∷ kind.Text ∷ kind.Number 1 10 ∷ []
kinds_of table.Watcher = any_number ∷ kind.Number 1 3 ∷ kind.Text ∷ []

-- a value of a number from one to another
abbrev pub IsWithin : ℕ → ℕ → Value → Type 0
IsWithin low high v = (n : ℕ) × (v ≡ count_value n) × (low ≤ n) × (n ≤ high)

-- a value is of this kind
abbrev pub IsOf : Kind → Value → Type 0
IsOf kind.Text v = IsText v
IsOf kind.TextOrNone v = IsTextOrNull v
IsOf kind.Minute v = IsMinute v
IsOf kind.MinuteOrNone v = IsMinuteOrNull v
IsOf (kind.Number low high) v = IsWithin low high v
