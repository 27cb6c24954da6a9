-- Lists that are written row by row: what of the text was printed.
use Rattle.std.specs.Prelude.{◌≡◌, ◌++◌, ℕ, ⊤, Bool, true, false, List, Err, Ok, Option, Result}
use Rattle.sqlite.specs.State.{State, HasCleanDisk}
use Rattle.settings_core.specs.declared.settings.Settings.{Settings}
use Rattle.desk_model.specs.Desk.{Desk}
use Rattle.desk_model.specs.IsDesk.{IsDesk}
use Rattle.desk_model.specs.declared.refusal.Refusal.TheVariants.{Unavailable}
use Rattle.store_core.specs.Due.{RepresentsWithDue}
use Rattle.stream_core.specs.Seen.{HaveOneWriter, has_write_failed}
use Rattle.stream_core.specs.Written.{Prints}
use Rattle.stream_core.specs.declared.writer.CountedWriter.{CountedWriter}
use Rattle.desk_reports.specs.declared.fault.StreamFault.{StreamFault}
use Rattle.desk_reports.specs.declared.fault.StreamFault.TheVariants.{Refused, Write}

-- whether a write failed; no fault but that memory or the store refused
abbrev pub IsCutBy : {X : Type 0} → Result X StreamFault → Bool → Type 0
IsCutBy (Ok done) failed = failed ≡ false
IsCutBy (Err Write) failed = failed ≡ true
IsCutBy (Err (Refused refusal)) failed = (failed ≡ false) × (refusal ≡ Unavailable)

-- What a call leaves of a writer: it is the one that it was, and the answer says whether a write
-- failed.
pub record LeavesWriter {W X : Type 0} (old new : CountedWriter W) (result : Result X StreamFault)
    : Type 0 where
  pub same_writer : HaveOneWriter new old
  pub failed : IsCutBy result (has_write_failed new)

-- what was printed is the text, or where it was cut short a part from the front of the text
abbrev pub IsPrintedOf : List ℕ → List ℕ → Result ⊤ StreamFault → Type 0
IsPrintedOf text printed (Ok done) = printed ≡ text
IsPrintedOf text printed (Err fault) = (rest : List ℕ) × (text ≡ printed ++ rest)

-- Something was printed, and it is so of the text of whatever desk the tables stand for with its
-- due moments. (Where a write failed, `Prints` says that the last of it wasn't written whole.)
abbrev pub WritesText : {W : Type 0} → Settings → (Desk → List ℕ) → State → State
    → (W → Option (List ℕ)) → CountedWriter W → CountedWriter W → Result ⊤ StreamFault → Type 0
WritesText settings text old new contents before after result =
    (printed : List ℕ) × Prints contents before after printed
    × ((desk : Desk) → IsDesk desk → RepresentsWithDue settings desk old → HasCleanDisk new
    → IsPrintedOf (text desk) printed result)
