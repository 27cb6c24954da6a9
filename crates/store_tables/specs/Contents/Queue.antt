-- The table `queue`: its columns, how a queue is spelt and read there, its statements.
use Rattle.std.specs.Prelude.{[], ◌∷◌, ◌++◌, codes, List, ℕ, ◌≡◌, ◌<◌, length, Bool}
use Rattle.sqlite.specs.Collation.TheVariants.{Binary}
use Rattle.sqlite.specs.declared.types.Value.TheVariants.{Null, Text as Words}
use Rattle.sqlite.specs.Table.{Table}
use Rattle.sqlite_schema.specs.declared.schema.Index.{Index}
use Rattle.sqlite.specs.Kind.TheVariants.{Text}
use Rattle.sqlite.specs.Term.{lit, col, op2, Term}
use Rattle.sqlite_sql.specs.declared.ops.BinaryOp.TheVariants.{Compare}
use Rattle.sqlite_sql.specs.declared.ops.CompareOp.TheVariants.{Eq}
use Rattle.sqlite.specs.Order.{Row, column}
use Rattle.sqlite.specs.Values.{or_null}
use Rattle.desk_model.specs.declared.rows.QueueRow.{QueueRow}
use Rattle.sqlite.specs.Query.{Query}
use Rattle.std.specs.Ordering.{nat_cmp}
use Rattle.std.specs.Cmp.Lexicographic.{slice_cmp}
use Rattle.std.specs.declared.cmp.Ordering.{Ordering}
use Rattle.store_tables.specs.Strict.{needed, optional, strict_table, key_of}
use Rattle.store_tables.specs.Values.{IsText, IsTextOrNull, same_text}
use Rattle.store_tables.specs.Query.{reads}

abbrev pub queue_text : List ℕ
queue_text =
    codes "CREATE TABLE IF NOT EXISTS queue (name TEXT NOT NULL PRIMARY KEY, lifecycle TEXT "
    ++ codes "NOT NULL, level TEXT) STRICT"

abbrev pub queue : Table
queue = strict_table (codes "queue") 1
    (needed (codes "name") Text ∷ needed (codes "lifecycle") Text ∷ optional (codes "level") Text
    ∷ []) (1 ∷ []) []

abbrev pub queue_key : Index
queue_key = key_of queue

-- the columns of a queue, after its rowid
abbrev pub queue_columns : QueueRow → Row
queue_columns q = Words q.name ∷ Words q.lifecycle ∷ or_null Words q.level ∷ []

pub record ReadsQueue (row : Row) (x : QueueRow) : Type 0 where
  pub name : column row 0 ≡ Words x.name
  pub lifecycle : column row 1 ≡ Words x.lifecycle
  pub level : column row 2 ≡ or_null Words x.level

pub record IsQueueRow (row : Row) : Type 0 where
  pub wide : 2 < length row
  pub name : IsText (column row 0)
  pub lifecycle : IsText (column row 1)
  pub level : IsTextOrNull (column row 2)

-- the queue by that name
abbrev pub is_named : List ℕ → QueueRow → Bool
is_named name q = same_text q.name name

abbrev pub by_name : QueueRow → QueueRow → Ordering
by_name a b = slice_cmp nat_cmp a.name b.name

abbrev pub queue_shown : List Term
queue_shown = col 1 1 ∷ col 1 2 ∷ col 1 3 ∷ []

abbrev pub queue_order : List Term
queue_order = col 1 1 ∷ []

abbrev pub add_queue_text : List ℕ
add_queue_text = codes "INSERT INTO queue (name, lifecycle, level) VALUES (?1, ?2, ?3)"

abbrev pub add_queue_terms : List Term
add_queue_terms = lit Null ∷ col 0 0 ∷ col 0 1 ∷ col 0 2 ∷ []
