-- How far the tables are made.
use Rattle.std.specs.Prelude.{◌≡◌, ◌⊎◌, ℕ, pos, IfErr, IfOk, List, [], ◌∷◌, IsTrue, Err, OnErr}
use Rattle.std.specs.Prelude.{None, OnOk, Option, Result, Some, true, ◌==◌, if◌then◌else◌, ℤ}
use Rattle.sqlite.specs.Order.{Row, column}
use Rattle.sqlite.specs.State.{State, HasCleanDisk}
use Rattle.sqlite.specs.Effect.{Database}
use Rattle.sqlite.specs.declared.types.Value.TheVariants.{Int}
use Rattle.sqlite_rules.specs.Lists.{Has}
use Rattle.desk_model.specs.Desk.{empty_desk}
use Rattle.store_tables.specs.Calls.{FailsIn, QueryInTransaction}
use Rattle.store_tables.specs.Contents.Meta.{meta, version_row, version_shown}
use Rattle.store_tables.specs.Strict.{no_schema}
use Rattle.store_tables.specs.Values.{IsNumberRow, IsWholeRow}
use Rattle.store_tables.specs.Contents.{Contents, HasBadRow, Tables}
use Rattle.store_tables.specs.Picked.{shows}
use Rattle.store_tables.specs.Stands.{HasFront, HasTables, HoldsNow, Represents, WhereOpen}
use Rattle.store_tables.specs.declared.fault.StoreFault.{StoreFault}
use Rattle.store_tables.specs.declared.fault.StoreFault.TheVariants.{Mismatch, Refused}
use Rattle.store_tables.specs.declared.fault.StoreFault.TheVariants.{WrongVersion}

-- no table at all
abbrev pub IsBlank : State → Type 0
IsBlank = WhereOpen (λ s. (s.now.schema ≡ no_schema) × (s.committed.schema ≡ no_schema))

-- with the present version, where none is written
abbrev pub numbered : Database → Database
numbered db = record db { trees = λ t. if t == meta.tree then version_row 2 ∷ [] else db.trees t }

-- in a transaction, the tables hold this, but for the version, of which there is no row
abbrev pub LacksVersion : Contents → State → Type 0
LacksVersion c =
    WhereOpen (λ s. (s.now.trees meta.tree ≡ []) × Tables c (numbered s.now)
    × (s.in_transaction ≡ true))

-- the one row shows that version
abbrev pub ShowsVersion : ℕ → List Row → Type 0
ShowsVersion n rows = rows ≡ (Int (pos n) ∷ []) ∷ []

-- the versions that are known: the present one, and the first, which comes to be the present one
abbrev pub IsKnown : ℕ → Type 0
IsKnown n = (n ≡ 1) ⊎ (n ≡ 2)

-- among all whole numbers
abbrev pub IsKnownVersion : ℤ → Type 0
IsKnownVersion z = (z ≡ pos 1) ⊎ (z ≡ pos 2)

-- in a transaction, the version is told to be wrong only where it isn't a known one
abbrev pub WrongInside : {X : Type 0} → State → State → Result X StoreFault → Type 0
WrongInside old new result =
    (c : Contents) → HoldsNow c old → HasCleanDisk new
    → IfErr result (λ e. e ≡ WrongVersion → ¬ IsKnown c.version)

-- it is the version that a row of meta shows
abbrev pub IsVersionOf : State → ℤ → Type 0
IsVersionOf s z =
    (r : Row) × Has (s.now.trees meta.tree) r × (column (shows version_shown [] r) 0 ≡ Int z)

abbrev pub IsOfMeta : State → ℕ → Type 0
IsOfMeta s n = IsVersionOf s (pos n)

-- each of these is the version of a row of meta
abbrev pub AreOfMeta : State → List Row → Type 0
AreOfMeta s rows =
    (row : Row) → Has rows row
    → (r : Row) × Has (s.now.trees meta.tree) r × (row ≡ shows version_shown [] r)

-- What is read of meta where the first n tables are there, whatever rows stand elsewhere: what it
-- answers is so of them, and a mismatch comes only of a row of meta that shows no number.
pub record ReadsMeta {X : Type 0} (P : State → X → Type 0) (old new : State)
    (result : Result X StoreFault) : Type 0 where
  pub told : HasFront old → HasCleanDisk new → IfOk result (P old)
  pub mismatch : IfErr result (λ e. e ≡ Mismatch → HasFront old → HasCleanDisk new
      → HasBadRow meta.tree version_shown IsNumberRow old.now)

-- no fault of a read of the version is of the version, and a mismatch comes only where it is no whole
-- number
abbrev pub MismatchesInMeta : {X : Type 0} → State → State → Result X StoreFault → Type 0
MismatchesInMeta old new result = FailsIn meta.tree version_shown IsWholeRow old new result

-- meta has no row, or one that shows this version
abbrev pub ShowsVersionOf : State → Option ℤ → Type 0
ShowsVersionOf s None = s.now.trees meta.tree ≡ []
ShowsVersionOf s (Some z) = IsVersionOf s z

-- What is read of meta in a transaction, whatever rows stand elsewhere.
pub record ReadsVersion (old new : State) (result : Result (Option ℤ) StoreFault) : Type 0 where
  pub looks : QueryInTransaction old new result
  pub shown : HasTables old → HasCleanDisk new → IfOk result (ShowsVersionOf old)
  pub fails : MismatchesInMeta old new result

-- a version is told to be wrong only where a row of meta shows one that isn't known
abbrev pub BlamesMeta : {X : Type 0} → State → State → Result X StoreFault → Type 0
BlamesMeta old new result =
    HasTables old → HasCleanDisk new
    → IfErr result (λ e. e ≡ WrongVersion → (z : ℤ) × IsVersionOf old z × ¬ IsKnownVersion z)

-- ---- of a whole call

-- from no table the tables come to stand for the empty desk; on a fault there is no table, and
-- the store or memory refused it
abbrev pub MakesDesk : {X : Type 0} → State → State → Result X StoreFault → Type 0
MakesDesk old new result =
    IsBlank old
    → OnOk result (Represents empty_desk new) × OnErr result (IsBlank new)
    × (HasCleanDisk new → IfErr result (λ e. e ≡ Refused))

-- where there is no table it is refused
abbrev pub RefusesBlank : {X : Type 0} → State → State → Result X StoreFault → Type 0
RefusesBlank old new result = IsBlank old → HasCleanDisk new → result ≡ Err Refused
