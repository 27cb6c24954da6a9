-- The first row of a desk's tables that is no value of its type.
use Rattle.std.specs.Prelude.{◌≡◌, ◌⊎◌, ◌+◌, ℕ, IfOk, IsTrue, List, [], ◌∷◌, Option, None, Some, Result}
use Rattle.sqlite.specs.Effect.{Database}
use Rattle.sqlite.specs.Order.{Row, column}
use Rattle.sqlite.specs.State.{State, HasCleanDisk}
use Rattle.store_tables.specs.Contents.{HasBadRow}
use Rattle.store_tables.specs.Picked.{Picks}
use Rattle.store_tables.specs.declared.fault.StoreFault.{StoreFault}
use Rattle.check_core.specs.Columns.{IsOf, IsValue, key_of, kinds_of, schema_of, shown_of}
use Rattle.check_core.specs.Columns.{tree_of}
use Rattle.check_core.specs.declared.columns.Kind.{Kind}
use Rattle.check_core.specs.declared.columns.Table.{Table}
use Rattle.check_core.specs.declared.columns.Version.{Version}

-- a row of the table is no value of its type
abbrev pub HasBad : Table → Database → Type 0
HasBad t db = HasBadRow (tree_of t) (shown_of t) (IsValue t) db

-- all rows of the table by its key, of each the columns that are tested
abbrev pub AreRows : Table → Database → List Row → Type 0
AreRows t db rows = Picks (tree_of t) [] (shown_of t) (key_of t) [] (db.trees (tree_of t)) rows

-- where a row has the first value, from this column on, that is of another kind, or none where all
-- are of their kinds
abbrev pub IsMisfit : List Kind → ℕ → Row → Option ℕ → Type 0
IsMisfit [] at row found = found ≡ None
IsMisfit (k ∷ ks) at row found =
    ((found ≡ Some at) × ¬ IsOf k (column row at))
    ⊎ (IsOf k (column row at) × IsMisfit ks (at + 1) row found)

-- the first row that has such a value, and where it does, or none where none has
abbrev pub IsFirstRow : List Kind → List Row → Option (Row × ℕ) → Type 0
IsFirstRow ks [] found = found ≡ None
IsFirstRow ks (row ∷ rows) found =
    ((at : ℕ) × (found ≡ Some (row, at)) × IsMisfit ks 0 row (Some at))
    ⊎ (IsMisfit ks 0 row None × IsFirstRow ks rows found)

-- the first bad row of a table by its key, or none where none is bad
abbrev pub IsBadOf : Table → Option (Row × ℕ) → Database → Type 0
IsBadOf t None db = ¬ HasBad t db
IsBadOf t (Some bad) db =
    HasBad t db × (rows : List Row) × AreRows t db rows × IsFirstRow (kinds_of t) rows (Some bad)

-- the first of these tables that has a bad row, and the first that it has
abbrev pub IsFirst : List Table → Option (Table × (Row × ℕ)) → Database → Type 0
IsFirst [] found db = found ≡ None
IsFirst (t ∷ ts) found db =
    ((bad : Row × ℕ) × (found ≡ Some (t, bad)) × IsBadOf t (Some bad) db)
    ⊎ (IsBadOf t None db × IsFirst ts found db)

-- the tables of a version are there, in the transaction and in the last commit, with any rows
abbrev pub HasTablesOf : Version → State → Type 0
HasTablesOf v s =
    HasCleanDisk s → IsTrue s.is_open
    → (s.now.schema ≡ schema_of v) × (s.committed.schema ≡ schema_of v)

-- what was found is so of tables of this version that are there, and they have not changed
abbrev pub Finds : {X : Type 0} → Version → (X → Database → Type 0) → State → State
    → Result X StoreFault → Type 0
Finds v Is old new result =
    HasTablesOf v old → HasCleanDisk new → IfOk result (λ x. Is x old.now × (new.now ≡ old.now))
