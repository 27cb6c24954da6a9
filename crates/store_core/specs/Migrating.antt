-- What making the tables does to those of version 1, and to those of any version.
use Rattle.std.specs.Prelude.{◌≡◌, ◌≢◌, ◌⊎◌, ◌≤◌, ℕ, ℤ, [], IfErr, IfOk, IsTrue, List, OnErr, OnOk}
use Rattle.std.specs.Prelude.{Option, Result, fold, true}
use Rattle.sqlite.specs.Change.{KeepsRows}
use Rattle.sqlite.specs.Effect.{Database}
use Rattle.sqlite.specs.Order.{Row}
use Rattle.sqlite.specs.State.{State, HasCleanDisk}
use Rattle.sqlite_rules.specs.Lists.{Has}
use Rattle.desk_model.specs.Desk.{Desk}
use Rattle.desk_model.specs.Facts.{stays_at}
use Rattle.desk_model.specs.IsDesk.{IsDesk}
use Rattle.desk_model.specs.declared.rows.RequestRow.{RequestRow}
use Rattle.store_tables.specs.Calls.{KeepsConnection, WasClean}
use Rattle.store_tables.specs.Contents.{Contents, add_stay, contents_of, first_contents_of}
use Rattle.store_tables.specs.Contents.{HasBadRow, Tables, desk_schema, front, table_count}
use Rattle.store_tables.specs.Making.{IsKnown, IsKnownVersion, IsOfMeta, IsVersionOf, numbered}
use Rattle.store_tables.specs.Contents.Entry.{IsEntryRow, entry, entry_shown_terms}
use Rattle.store_tables.specs.Contents.Meta.{meta, version_shown}
use Rattle.store_tables.specs.Contents.Request.{last_id_terms, request}
use Rattle.store_tables.specs.Contents.Stay.{stay_rows}
use Rattle.store_tables.specs.Values.{IsNumberRow, IsWholeRow}
use Rattle.store_tables.specs.Stands.{FirstHoldCommitted, InTransaction, HasFront, HasTables, HoldsNow, KeepsCommitted}
use Rattle.store_tables.specs.Stands.{HoldCommitted, WhereOpen, filled}
use Rattle.store_tables.specs.declared.fault.StoreFault.{StoreFault}
use Rattle.store_tables.specs.declared.fault.StoreFault.TheVariants.{Mismatch, Refused}
use Rattle.store_tables.specs.declared.fault.StoreFault.TheVariants.{WrongVersion}

-- ---- tables of which some may lack

-- the first n tables are there, and with no row in those that lack they hold this
abbrev pub PartTables : Contents → Database → Type 0
PartTables c db = (n : ℕ) × (n ≤ table_count) × (db.schema ≡ front n) × Tables c (filled n db)

abbrev pub HoldsPart : Contents → State → Type 0
HoldsPart c = WhereOpen (λ s. PartTables c s.now)

-- they hold this but for the version, of which there is no row
abbrev pub UnnumberedTables : Contents → Database → Type 0
UnnumberedTables c db =
    (n : ℕ) × (n ≤ table_count) × (db.schema ≡ front n) × ((filled n db).trees 0 ≡ [])
    × Tables c (numbered (filled n db))

abbrev pub HoldsUnnumbered : Contents → State → Type 0
HoldsUnnumbered c = WhereOpen (λ s. UnnumberedTables c s.now)

-- ---- while they are made

-- all seven are there: the first n have their rows still, and the others none
abbrev pub IsGrown : ℕ → Database → Database → Type 0
IsGrown n old new =
    (new.schema ≡ desk_schema) × KeepsRows desk_schema.tables (filled n old).trees new.trees

-- so they are where the first n were there, in a transaction that goes on
abbrev pub Grows : State → State → Type 0
Grows old new =
    HasCleanDisk new
    → IsTrue old.is_open × (new.in_transaction ≡ true)
    × ((n : ℕ) → n ≤ table_count → old.now.schema ≡ front n → IsGrown n old.now new.now)

-- ---- while stays are filled in

-- the stays of a request of the desk are added
abbrev pub stays_filled : Desk → Contents → ℕ → Contents
stays_filled desk c id = fold add_stay c (stay_rows id (stays_at desk id))

-- where the requests and the entries are those of a desk, the stays of these numbers are added
abbrev pub FillsStays : {X : Type 0} → (Desk → List ℕ) → State → State → Result X StoreFault
    → Type 0
FillsStays numbers old new result =
    (desk : Desk) → IsDesk desk → (due : RequestRow → Option ℕ) (c : Contents)
    → c.dated ≡ (contents_of due desk).dated → c.entries ≡ (contents_of due desk).entries
    → HoldsNow c old → OnOk result (HoldsNow (fold (stays_filled desk) c (numbers desk)) new)

-- the contents of version 1 of a desk become those of version 2, with the same due moments
abbrev pub BringsUp : {X : Type 0} → State → State → Result X StoreFault → Type 0
BringsUp old new result =
    (desk : Desk) → IsDesk desk → (due : RequestRow → Option ℕ)
    → HoldsNow (first_contents_of due desk) old
    → OnOk result (HoldsNow (contents_of due desk) new)

-- whatever the tables hold, they hold something after it; whatever tables there are, the last
-- commit stays, and the transaction goes on; the connection lasts
pub record RunsOn {X : Type 0} (old new : State) (result : Result X StoreFault) : Type 0 where
  pub holds : (c : Contents) → HoldsNow c old → OnOk result ((d : Contents) × HoldsNow d new)
  pub keeps : KeepsCommitted old new
  pub goes_on : InTransaction old → OnOk result (InTransaction new)
  pub clean : WasClean old new
  pub lasts : KeepsConnection old new

-- what stays are made of has a bad row: the number of a request, or an entry, is none
abbrev pub HasBadSource : Database → Type 0
HasBadSource db =
    HasBadRow request.tree last_id_terms IsNumberRow db
    ⊎ HasBadRow entry.tree entry_shown_terms IsEntryRow db

-- no fault is of the version, and a mismatch comes only of such a row, in an open store
pub record MismatchMeansBadSource {X : Type 0} (old new : State) (result : Result X StoreFault) : Type 0
  where
    pub known : IfErr result (λ e. e ≢ WrongVersion)
    pub mismatch : IfErr result (λ e. e ≡ Mismatch → HasTables old → HasCleanDisk new
        → IsTrue old.is_open × HasBadSource old.now)

-- whatever values the tables hold, the fault is that the store or memory refused it
abbrev pub RefusesOn : {X : Type 0} → State → State → Result X StoreFault → Type 0
RefusesOn old new result =
    (c : Contents) → HoldsNow c old → HasCleanDisk new → IfErr result (λ e. e ≡ Refused)

-- meta has no row, or one that shows a known version
abbrev pub IsNumberedSo : State → Type 0
IsNumberedSo s = (s.now.trees meta.tree ≡ []) ⊎ ((n : ℕ) × IsOfMeta s n × IsKnown n)

-- where all seven are there, with whatever rows: it goes well only there, and where meta has a row
-- but none of version 1, no row of any table is another
pub record KeepsOthers {X : Type 0} (old new : State) (result : Result X StoreFault) : Type 0 where
  pub over : HasTables old → HasCleanDisk new → OnOk result (IsNumberedSo old)
  pub alone : HasTables old → HasCleanDisk new → ¬ IsOfMeta old 1 → (row : Row)
      → Has (old.now.trees meta.tree) row → OnOk result (new.now ≡ old.now)

-- ---- of a whole call

-- tables of another version than 1 stay as they are
abbrev pub LeavesOthers : State → State → Type 0
LeavesOthers old new = (c : Contents) → c.version ≢ 1 → HoldCommitted c old → HoldCommitted c new

-- Where only the first n tables are there, or none, those that lack are made.
pub record Completes {X : Type 0} (old new : State) (result : Result X StoreFault) : Type 0 where
  -- what they held, all seven hold then
  pub held : (c : Contents) → c.version ≢ 1 → HoldsPart c old → OnOk result (HoldCommitted c new)
  -- where no version was written, the present one is
  pub numbered : (c : Contents) → HoldsUnnumbered c old → OnOk result (HoldCommitted c new)
  -- and the fault is that the store or memory refused it
  pub refuses : (c : Contents) → HoldsUnnumbered c old → HasCleanDisk new
      → IfErr result (λ e. e ≡ Refused)

-- six tables of version 1 that stand for a desk come to stand for it as seven of version 2, with
-- the same due moments; on a fault they are the six still
abbrev pub MigratesDesk : {X : Type 0} → State → State → Result X StoreFault → Type 0
MigratesDesk old new result =
    (desk : Desk) → IsDesk desk → (due : RequestRow → Option ℕ)
    → FirstHoldCommitted (first_contents_of due desk) old
    → OnOk result (HoldCommitted (contents_of due desk) new)
    × OnErr result (FirstHoldCommitted (first_contents_of due desk) new)

-- it goes well only over a known version, and is the wrong version only over another
abbrev pub NeedsKnown : {X : Type 0} → State → State → Result X StoreFault → Type 0
NeedsKnown old new result =
    (c : Contents) → HoldsPart c old → HasCleanDisk new
    → IfOk result (λ done. IsKnown c.version)
    × IfErr result (λ e. e ≡ WrongVersion → ¬ IsKnown c.version)

-- over values of a known version, the fault is that the store or memory refused it
abbrev pub RefusesKnown : {X : Type 0} → State → State → Result X StoreFault → Type 0
RefusesKnown old new result =
    (c : Contents) → IsKnown c.version → HoldsPart c old → HasCleanDisk new
    → IfErr result (λ e. e ≡ Refused)

-- a version is told to be wrong only where a row of meta shows one that isn't known
abbrev pub MismatchMeansUnknownName : {X : Type 0} → State → State → Result X StoreFault → Type 0
MismatchMeansUnknownName old new result =
    HasFront old → HasCleanDisk new
    → IfErr result (λ e. e ≡ WrongVersion → (z : ℤ) × IsVersionOf old z × ¬ IsKnownVersion z)

-- no version is written: meta isn't there, or has no row
abbrev pub IsUnnumbered : State → Type 0
IsUnnumbered s =
    (n : ℕ) × (n ≤ table_count) × (s.now.schema ≡ front n) × ((filled n s.now).trees meta.tree ≡ [])

-- where the first n tables are there, with whatever rows, it goes well only where no version is
-- written, or a known one
abbrev pub NeedsVersion : {X : Type 0} → State → State → Result X StoreFault → Type 0
NeedsVersion old new result =
    HasFront old → HasCleanDisk new
    → OnOk result (IsUnnumbered old ⊎ ((n : ℕ) × IsOfMeta old n × IsKnown n))

-- and where a version is written, but not version 1, those have their rows still, and the tables
-- that lacked have none
abbrev pub IfPresent : {X : Type 0} → (ℕ → Type 0) → State → State → Result X StoreFault → Type 0
IfPresent P old new result =
    (n : ℕ) → n ≤ table_count → old.now.schema ≡ front n → (row : Row)
    → Has ((filled n old.now).trees meta.tree) row → ¬ IsOfMeta old 1 → HasCleanDisk new
    → OnOk result (P n)

abbrev pub LeavesInside : {X : Type 0} → State → State → Result X StoreFault → Type 0
LeavesInside old new result = IfPresent (λ n. IsGrown n old.now new.now) old new result

abbrev pub LeavesPresent : {X : Type 0} → State → State → Result X StoreFault → Type 0
LeavesPresent old new result =
    IfPresent (λ n. IsGrown n old.now new.now × IsGrown n old.now new.committed) old new result

-- the first n tables of version 1 that stand for a desk come to stand for it as seven of version 2,
-- with the same due moments
abbrev pub BringsPart : {X : Type 0} → State → State → Result X StoreFault → Type 0
BringsPart old new result =
    (desk : Desk) → IsDesk desk → (due : RequestRow → Option ℕ)
    → HoldsPart (first_contents_of due desk) old → OnOk result (HoldCommitted (contents_of due desk) new)

-- both of these of the version
abbrev pub TellsVersion : {X : Type 0} → State → State → Result X StoreFault → Type 0
TellsVersion old new result = NeedsKnown old new result × MismatchMeansUnknownName old new result

-- a row of meta shows no whole number, or it shows version 1 and what stays are made of has a bad row
abbrev pub IsBlamed : State → Type 0
IsBlamed s = HasBadRow meta.tree version_shown IsWholeRow s.now ⊎ (IsOfMeta s 1 × HasBadSource s.now)

-- a mismatch comes only of one of these
abbrev pub MismatchesInMaking : {X : Type 0} → State → State → Result X StoreFault → Type 0
MismatchesInMaking old new result =
    IfErr result (λ e. e ≡ Mismatch → HasFront old → HasCleanDisk new → IsBlamed old)
