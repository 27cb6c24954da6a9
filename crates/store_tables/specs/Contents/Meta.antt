-- The table `meta`: its columns, its one row, its statements.
use Rattle.std.specs.Prelude.{[], ◌∷◌, ◌++◌, codes, List, ℕ, pos}
use Rattle.sqlite.specs.Collation.TheVariants.{Binary}
use Rattle.sqlite.specs.declared.types.Value.TheVariants.{Null, Int}
use Rattle.sqlite.specs.Table.{Table}
use Rattle.sqlite.specs.Kind.TheVariants.{Integer}
use Rattle.sqlite.specs.Term.{lit, col, op2, Term}
use Rattle.sqlite_sql.specs.declared.ops.BinaryOp.TheVariants.{Compare}
use Rattle.sqlite_sql.specs.declared.ops.CompareOp.TheVariants.{Eq}
use Rattle.sqlite.specs.Order.{Row}
use Rattle.sqlite.specs.Query.{Query}
use Rattle.store_tables.specs.Strict.{needed, optional, numbered_table}
use Rattle.store_tables.specs.Query.{reads}

abbrev pub meta_text : List ℕ
meta_text =
    codes "CREATE TABLE IF NOT EXISTS meta (one INTEGER PRIMARY KEY CHECK (one = 1), version "
    ++ codes "INTEGER NOT NULL) STRICT"

abbrev pub meta : Table
meta = numbered_table (codes "meta") 0
    (optional (codes "one") Integer ∷ needed (codes "version") Integer ∷ [])
    (op2 (Compare Eq Binary) (col 1 0) (lit (Int (pos 1))) ∷ []) []

-- the one row of meta, with its number
abbrev pub version_row : ℕ → Row
version_row n = Int (pos 1) ∷ Null ∷ Int (pos n) ∷ []

abbrev pub version_shown : List Term
version_shown = col 1 2 ∷ []

abbrev pub version_text : List ℕ
version_text = codes "SELECT version FROM meta"

abbrev pub version_query : Query
version_query = reads meta.tree [] (col 1 2 ∷ []) []

abbrev pub add_version_text : List ℕ
add_version_text = codes "INSERT INTO meta (one, version) VALUES (1, 2)"

abbrev pub add_version_terms : List Term
add_version_terms = lit (Int (pos 1)) ∷ lit Null ∷ lit (Int (pos 2)) ∷ []

abbrev pub set_version_text : List ℕ
set_version_text = codes "UPDATE meta SET version = 2"

abbrev pub set_version_terms : List Term
set_version_terms = col 1 0 ∷ col 1 0 ∷ lit Null ∷ lit (Int (pos 2)) ∷ []
