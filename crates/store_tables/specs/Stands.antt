-- What it is that tables stand for a desk.
use Rattle.std.specs.Prelude.{◌≡◌, ◌<◌, ◌≤◌, ◌==◌, ℕ, [], Bool, IsTrue, List, Ok, Option}
use Rattle.std.specs.Prelude.{true, if◌then◌else◌}
use Rattle.std.specs.List.{list_any}
use Rattle.sqlite.specs.Change.{KeepsRows}
use Rattle.sqlite.specs.Order.{Row}
use Rattle.sqlite.specs.Effect.{Database}
use Rattle.sqlite.specs.State.{State, HasCleanDisk, Executes, Shows}
use Rattle.desk_model.specs.Desk.{Desk}
use Rattle.desk_model.specs.declared.rows.RequestRow.{RequestRow}
use Rattle.store_tables.specs.Contents.{Contents, contents_of, first_contents_of, desk_schema}
use Rattle.store_tables.specs.Contents.{front, table_count, Tables}
use Rattle.store_tables.specs.Contents.{first_schema}

-- it is so where the store is open and its disk is clean
abbrev pub WhereOpen : (State → Type 0) → State → Type 0
WhereOpen P s = HasCleanDisk s → IsTrue s.is_open → P s

-- the tables are those of the last commit, whatever there are
abbrev pub IsSettled : State → Type 0
IsSettled s = IsTrue s.is_open → s.now ≡ s.committed

-- the tables hold this, and so do those of the last commit
abbrev pub HoldCommitted : Contents → State → Type 0
HoldCommitted c = WhereOpen (λ s. Tables c s.now × Tables c s.committed)

-- the tables stand for the desk, with any due moments
abbrev pub Represents : Desk → State → Type 0
Represents desk s = (due : RequestRow → Option ℕ) × HoldCommitted (contents_of due desk) s

-- in a transaction the tables hold this, whatever the last commit left
abbrev pub HoldsNow : Contents → State → Type 0
HoldsNow c = WhereOpen (λ s. Tables c s.now × (s.in_transaction ≡ true))

-- in a transaction that goes on, whatever rows the tables have
abbrev pub InTransaction : State → Type 0
InTransaction = WhereOpen (λ s. s.in_transaction ≡ true)

-- the tables are there, with any rows
abbrev pub HasTables : State → Type 0
HasTables = WhereOpen (λ s. s.now.schema ≡ desk_schema)

-- the tables are there still, and none but that of stays has other rows
abbrev pub OnlyStaysChange : State → State → Type 0
OnlyStaysChange old new =
    HasTables old → HasCleanDisk new → IsTrue new.is_open
    → IsTrue old.is_open × (new.now.schema ≡ desk_schema)
    × KeepsRows first_schema.tables old.now.trees new.now.trees

-- the tables are again as the last commit left them
abbrev pub RolledBack : State → State → Type 0
RolledBack old new =
    HasCleanDisk new → IsTrue new.is_open
    → HasCleanDisk old × IsTrue old.is_open × (new.now ≡ old.committed)
    × (new.committed ≡ old.committed)

-- what the tables show is committed, whatever it is
abbrev pub Commits : State → State → Type 0
Commits old new =
    HasCleanDisk new → IsTrue old.is_open × (new.now ≡ old.now) × (new.committed ≡ old.now)

-- the last commit stays what it was, whatever it is
abbrev pub KeepsCommitted : State → State → Type 0
KeepsCommitted old new =
    HasCleanDisk new → IsTrue new.is_open
    → HasCleanDisk old × IsTrue old.is_open × (new.committed ≡ old.committed)

-- the statement ran in a transaction, which goes on
pub record HasRun (sql : List ℕ) (params : Row) (old new : State) (count : ℕ) : Type 0 where
  pub runs : Executes sql params old new (Ok count)
  pub shown : Shows old new new.now old.committed true

-- it did, and changed one row or none
abbrev pub RanOnAny : List ℕ → Row → State → State → Type 0
RanOnAny sql params old new = (count : ℕ) × (count < 2) × HasRun sql params old new count

-- ---- where only some of the tables are there

-- the table is one of the first n
abbrev pub is_among : ℕ → ℕ → Bool
is_among n tree = list_any (λ t. t.tree == tree) (front n).tables

-- the first n tables with their rows, and those that lack with none
abbrev pub filled : ℕ → Database → Database
filled n db =
    record { schema = desk_schema; trees = λ t. if is_among n t then db.trees t else [] }

-- the six tables of version 1: what they hold is what all seven would, with no row of stays
pub record FirstTables (c : Contents) (db : Database) : Type 0 where
  pub schema : db.schema ≡ first_schema
  pub version : c.version ≡ 1
  pub tables : Tables c (filled 6 db)

-- the six tables hold this, and so do those of the last commit
abbrev pub FirstHoldCommitted : Contents → State → Type 0
FirstHoldCommitted c = WhereOpen (λ s. FirstTables c s.now × FirstTables c s.committed)

-- the first n of the seven tables are there, none, some or all, with any rows
abbrev pub HasFront : State → Type 0
HasFront = WhereOpen (λ s. (n : ℕ) × (n ≤ table_count) × (s.now.schema ≡ front n))

-- the six tables stand for the desk, with any due moments
abbrev pub FirstStandsFor : Desk → State → Type 0
FirstStandsFor desk s =
    (due : RequestRow → Option ℕ) × FirstHoldCommitted (first_contents_of due desk) s
