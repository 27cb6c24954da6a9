-- What calls over the tables answer, and what they leave.
use Rattle.std.specs.Prelude.{◌≡◌, ◌≢◌, ◌≤◌, ◌⊎◌, ℕ, IfErr, IfOk, IsTrue, List, None, Ok, OnOk}
use Rattle.std.specs.Prelude.{Result}
use Rattle.std.specs.List.{AllZip}
use Rattle.sqlite.specs.Listing.{understood}
use Rattle.sqlite.specs.Order.{Row}
use Rattle.sqlite.specs.declared.error.Error.{Error}
use Rattle.sqlite.specs.declared.error.Error.TheVariants.{SqliteFailure}
use Rattle.sqlite.specs.declared.error.ErrorCode.TheVariants.{Closed}
use Rattle.sqlite_disk.specs.Disk.{MoreFaults}
use Rattle.sqlite.specs.State.{State, HasCleanDisk, IsUnchanged, Shown}
use Rattle.sqlite.specs.Schema.{Schema}
use Rattle.sqlite.specs.Term.{Term}
use Rattle.sqlite_resolve.specs.declared.compiled.Compiled.{Compiled}
use Rattle.sqlite_rules.specs.Lists.{Has}
use Rattle.desk_model.specs.Desk.{Desk}
use Rattle.desk_model.specs.IsDesk.{IsDesk}
use Rattle.store_tables.specs.Contents.{Contents, desk_schema, HasBadRow}
use Rattle.store_tables.specs.Dated.{MakesDated}
use Rattle.store_tables.specs.Stands.{InTransaction, HasTables, HoldsNow, KeepsCommitted, HoldCommitted, Represents}
use Rattle.store_tables.specs.declared.fault.StoreFault.{StoreFault}
use Rattle.store_tables.specs.declared.fault.StoreFault.TheVariants.{Mismatch, Refused}
use Rattle.store_tables.specs.declared.fault.StoreFault.TheVariants.{WrongVersion}

-- the tables are there, in the transaction and in the last commit, whatever rows they have
abbrev pub AreThere : State → Type 0
AreThere s =
    HasCleanDisk s → IsTrue s.is_open
    → (s.now.schema ≡ desk_schema) × (s.committed.schema ≡ desk_schema)

-- The connection lasts: no fault of the disk is forgotten, only one shuts what was open, and the
-- limit on steps is kept.
pub record KeepsConnection (old new : State) : Type 0 where
  pub counts : old.faults ≤ new.faults
  pub limit : new.step_limit ≡ old.step_limit
  pub closes : HasCleanDisk new → IsTrue old.is_open
      → IsTrue new.is_open ⊎ MoreFaults old.faults new.faults

-- the last commit stays, and the tables show what they showed or what it has
abbrev pub AreLeft : State → State → Type 0
AreLeft old new =
    HasCleanDisk new → IsTrue new.is_open
    → IsTrue old.is_open × (new.committed ≡ old.committed)
    × ((new.now ≡ old.now) ⊎ (new.now ≡ old.committed))

-- So are all tables left, whatever there are. The connection lasts.
pub record LeavesTables (old new : State) : Type 0 where
  pub clean : HasCleanDisk new → HasCleanDisk old
  pub lasts : KeepsConnection old new
  pub left : AreLeft old new

-- what is answered over a connection that is shut
abbrev pub shut : Error
shut = SqliteFailure Closed

-- What a query leaves, whatever tables there are: all are spared, and where it isn't refused nothing
-- has changed.
pub record Leaves {X : Type 0} (old new : State) (result : Result X StoreFault) : Type 0 where
  pub spares : LeavesTables old new
  pub same : HasCleanDisk new → IfOk result (λ x. IsUnchanged old new)

-- whatever tables there are, the text is no statement that gives back rows of what it writes
abbrev pub ReadsAlone : List ℕ → Type 0
ReadsAlone sql =
    (schema : Schema) (c : Compiled) → understood schema sql ≡ Ok c → c.returning ≡ None

-- a disk that is clean after the call was clean before it
abbrev pub WasClean : State → State → Type 0
WasClean old new = HasCleanDisk new → HasCleanDisk old

-- what is answered is so of whatever the tables hold
abbrev pub Answers : {X : Type 0} → (Contents → X → Type 0) → State → State → Result X StoreFault
    → Type 0
Answers P old new result = (c : Contents) → HoldCommitted c old → HasCleanDisk new → IfOk result (P c)

-- what is answered is so of the desk that the tables stand for
abbrev pub Tells : {X E : Type 0} → (Desk → X → Type 0) → State → State → Result X E → Type 0
Tells P old new result =
    (desk : Desk) → IsDesk desk → Represents desk old → HasCleanDisk new → IfOk result (P desk)

-- no fault is of the version, and a mismatch comes only of a bad row in an open store
abbrev pub FailsIn : {X : Type 0} → ℕ → List Term → (Row → Type 0) → State → State
    → Result X StoreFault → Type 0
FailsIn tree terms IsValue old new result =
    IfErr result (λ e. (e ≢ WrongVersion) × (e ≡ Mismatch → HasTables old → HasCleanDisk new
    → IsTrue old.is_open × HasBadRow tree terms IsValue old.now))

-- What a reading of a whole table tests. Where it goes well, no row of the table is bad and nothing
-- has changed.
pub record ValidatesTable {X : Type 0} (tree : ℕ) (terms : List Term) (IsValue : Row → Type 0)
    (old new : State) (result : Result X StoreFault) : Type 0 where
  pub fails : FailsIn tree terms IsValue old new result
  pub good : HasTables old → HasCleanDisk new
      → IfOk result (λ x. ¬ HasBadRow tree terms IsValue old.now)
  pub same : HasCleanDisk new → IfOk result (λ x. IsUnchanged old new)

-- What a query reads: the values are those that its rows show, one for each, and each row shows one;
-- a mismatch comes only of a row that shows none, and no fault is of the version.
pub record ReadsRows {X V : Type 0} (Reads : Row → V → Type 0) (IsValue : Row → Type 0)
    (values : X → List V) (sql : List ℕ) (params : Row) (old new : State)
    (result : Result X StoreFault) : Type 0 where
  pub read : HasCleanDisk new → IfOk result (λ x.
      (rows : List Row) × Shown sql params old new rows × AllZip Reads rows (values x)
      × ((row : Row) → Has rows row → IsValue row))
  pub mismatch : HasCleanDisk new → IfErr result (λ e. e ≡ Mismatch →
      (rows : List Row) × Shown sql params old new rows
      × (row : Row) × Has rows row × ¬ IsValue row)
  pub known : IfErr result (λ e. e ≢ WrongVersion)

-- where the tables hold values, the fault is that the store or memory refused it
abbrev pub OnlyRefuses : {X : Type 0} → State → State → Result X StoreFault → Type 0
OnlyRefuses old new result =
    (c : Contents) → HoldCommitted c old → HasCleanDisk new → IfErr result (λ e. e ≡ Refused)

-- ---- in a transaction

-- whatever the tables hold, they hold what this makes of it
abbrev pub Makes : {X : Type 0} → (Contents → Contents) → State → State → Result X StoreFault
    → Type 0
Makes change old new result =
    (c : Contents) → HoldsNow c old → OnOk result (HoldsNow (change c) new)

-- What running a statement in a transaction leaves, whatever rows the tables have: how it ran, the
-- last commit stays, a disk that is clean after it was clean before, and the connection lasts. A
-- fault is that the store or memory refused it.
pub record StatementRuns {X : Type 0} (P : X → Type 0) (old new : State) (result : Result X StoreFault) :
    Type 0 where
  pub ran : HasCleanDisk new → IfOk result P
  pub keeps : KeepsCommitted old new
  pub clean : WasClean old new
  pub lasts : KeepsConnection old new
  pub refused : IfErr result (λ e. e ≡ Refused)

-- What a statement or a row of them does in a transaction: of whatever the tables hold it makes
-- `change`, and of whatever requests they show. Whatever rows they have, the last commit stays, and
-- the transaction goes on where nothing is refused. A disk that is clean after it was clean before,
-- and the connection lasts. A fault is that the store or memory refused it.
pub record StatementChanges {X : Type 0} (change : Contents → Contents) (old new : State)
    (result : Result X StoreFault) : Type 0 where
  pub makes : Makes change old new result
  pub shows : MakesDated change old new result
  pub keeps : KeepsCommitted old new
  pub goes_on : InTransaction old → OnOk result (InTransaction new)
  pub clean : WasClean old new
  pub lasts : KeepsConnection old new
  pub refused : IfErr result (λ e. e ≡ Refused)

-- What a query does there: the tables hold what they held. Whatever tables there are, they are as
-- they were, the last commit stays, and the transaction goes on where nothing is refused. A disk
-- that is clean after it was clean before, and the connection lasts.
pub record QueryInTransaction {X : Type 0} (old new : State) (result : Result X StoreFault) : Type 0 where
  pub makes : Makes (λ c. c) old new result
  pub same : HasCleanDisk new → IfOk result (λ x. IsTrue old.is_open × (new.now ≡ old.now))
  pub keeps : KeepsCommitted old new
  pub goes_on : InTransaction old → OnOk result (InTransaction new)
  pub clean : WasClean old new
  pub lasts : KeepsConnection old new

-- what is answered there is so of whatever the tables hold
abbrev pub AnswersInTransaction : {X : Type 0} → (Contents → X → Type 0) → State → State → Result X StoreFault
    → Type 0
AnswersInTransaction P old new result = (c : Contents) → HoldsNow c old → HasCleanDisk new → IfOk result (P c)
