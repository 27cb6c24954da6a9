-- What is gathered and printed of rows of requests that a store gives one at a time.
use Rattle.std.specs.Prelude.{◌≡◌, ◌++◌, ◌∷◌, ℕ, ⊤, [], Bool, true, false, Err, List, Ok, Option}
use Rattle.std.specs.Prelude.{Result}
use Rattle.std.specs.List.{flat_map}
use Rattle.sqlite.specs.State.{HasCleanDisk}
use Rattle.sqlite.specs.Store.{Ghosts}
use Rattle.desk_model.specs.Desk.{Desk}
use Rattle.desk_model.specs.IsDesk.{IsDesk}
use Rattle.desk_model.specs.declared.rows.RequestRow.{RequestRow}
use Rattle.desk_model.specs.declared.rows.Watcher.{Watcher}
use Rattle.report_core.specs.Rows.{WatchesRise}
use Rattle.store_tables.specs.Calls.{LeavesTables}
use Rattle.store_tables.specs.Contents.{contents_of}
use Rattle.store_tables.specs.Contents.Request.{Dated}
use Rattle.store_tables.specs.Stands.{HoldCommitted}
use Rattle.store_core.specs.Ahead.{HasGiven}
use Rattle.store_core.specs.Seen.{state_of}
use Rattle.store_core.specs.declared.rows.Progress.TheVariants.{Reading}
use Rattle.store_core.specs.declared.rows.RequestRows.{RequestRows}
use Rattle.store_core.specs.declared.store.Store.{Store}
use Rattle.stream_core.specs.Written.{Prints}
use Rattle.stream_core.specs.declared.writer.CountedWriter.{CountedWriter}
use Rattle.desk_reports.specs.Gathered.{Gathers}
use Rattle.desk_reports.specs.Streams.{IsPrintedOf}
use Rattle.desk_reports.specs.declared.fault.StreamFault.{StreamFault}

-- the store that rows are read from
abbrev pub store_of : {S : Type 0} (g : Ghosts S) → RequestRows S g → Store S g
store_of g rows = rows.store.now

-- rows may come
abbrev pub IsReading : {S : Type 0} (g : Ghosts S) → RequestRows S g → Type 0
IsReading g rows = rows.progress ≡ Reading

-- both are read from one reference to a store
abbrev pub ReadOneStore : {S : Type 0} (g : Ghosts S) → RequestRows S g → RequestRows S g → Type 0
ReadOneStore g a b = a.store.ghost_name ≡ b.store.ghost_name

-- What a call leaves of rows: they are read from one reference to a store, whose tables stay as
-- they were.
pub record LeavesRows {S : Type 0} (g : Ghosts S) (old new : RequestRows S g) : Type 0 where
  pub same_store : ReadOneStore g new old
  pub kept : LeavesTables (state_of g (store_of g old)) (state_of g (store_of g new))

-- of whatever desk the tables stand for, and whatever due moments, at the first of two rows
abbrev pub OfEachDesk : {S : Type 0} (g : Ghosts S) → RequestRows S g → RequestRows S g
    → ((RequestRow → Option ℕ) → Desk → Type 0) → Type 0
OfEachDesk g old new P =
    (desk : Desk) → IsDesk desk → (due : RequestRow → Option ℕ)
    → HoldCommitted (contents_of due desk) (state_of g (store_of g old))
    → HasCleanDisk (state_of g (store_of g new)) → P due desk

-- after the rows that were given, the text of the next was gathered, or nothing, since they were
-- all; or, where it was cut short, a part from the front of the texts of the others
abbrev pub IsNextOf : {S : Type 0} (g : Ghosts S) → (Dated → List ℕ) → RequestRows S g
    → (RequestRow → Option ℕ) → Desk → List Dated → List Dated → List ℕ → Result Bool StreamFault
    → Type 0
IsNextOf g text rows due desk all given printed (Ok true) =
    (row : Dated) × HasGiven g rows due desk all (given ++ row ∷ []) × (printed ≡ text row)
IsNextOf g text rows due desk all given printed (Ok false) = (all ≡ given) × (printed ≡ [])
IsNextOf g text rows due desk all given printed (Err fault) =
    (rest : List ℕ) × (flat_map text all ≡ flat_map text given ++ (printed ++ rest))

-- it is so of the text of all rows
abbrev pub AreRowsOf : {S : Type 0} (g : Ghosts S) → List Watcher → (List Dated → List ℕ)
    → RequestRows S g → RequestRows S g → List ℕ → Result ⊤ StreamFault → Type 0
AreRowsOf g watches text old new printed result =
    WatchesRise watches → OfEachDesk g old new (λ due desk.
    (all : List Dated) → HasGiven g old due desk all []
    → IsPrintedOf (text all) printed result)

-- something was printed, and it is so of the text of all rows
abbrev pub PrintsRows : {S W : Type 0} (g : Ghosts S) → List Watcher → (List Dated → List ℕ)
    → RequestRows S g → RequestRows S g → (W → Option (List ℕ)) → CountedWriter W
    → CountedWriter W → Result ⊤ StreamFault → Type 0
PrintsRows g watches text old new contents before after result =
    (printed : List ℕ) × Prints contents before after printed
    × AreRowsOf g watches text old new printed result

-- something was gathered, and it is so of the text of all rows
abbrev pub GathersRows : {S W : Type 0} (g : Ghosts S) → List Watcher → (List Dated → List ℕ)
    → RequestRows S g → RequestRows S g → (W → Option (List ℕ)) → CountedWriter W → List ℕ
    → CountedWriter W → List ℕ → Result ⊤ StreamFault → Type 0
GathersRows g watches text old new contents before had after has result =
    (gathered : List ℕ) × Gathers contents before had after has gathered
    × AreRowsOf g watches text old new gathered result

-- something was gathered, and it is that of the next row
abbrev pub GathersNext : {S W : Type 0} (g : Ghosts S) → List Watcher → (Dated → List ℕ)
    → RequestRows S g → RequestRows S g → (W → Option (List ℕ)) → CountedWriter W → List ℕ
    → CountedWriter W → List ℕ → Result Bool StreamFault → Type 0
GathersNext g watches text old new contents before had after has result =
    (gathered : List ℕ) × Gathers contents before had after has gathered
    × (WatchesRise watches → OfEachDesk g old new (λ due desk.
    (all given : List Dated) → HasGiven g old due desk all given
    → IsNextOf g text new due desk all given gathered result))
