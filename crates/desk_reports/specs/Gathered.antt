-- Texts that are gathered before they are written.
use Rattle.std.specs.Prelude.{◌≡◌, ◌++◌, ℕ, ⊤, List, Option, Result}
use Rattle.report_core.specs.Rows.{WatchesRise}
use Rattle.desk_model.specs.declared.rows.Watcher.{Watcher}
use Rattle.stream_core.specs.Written.{Prints}
use Rattle.stream_core.specs.declared.writer.CountedWriter.{CountedWriter}
use Rattle.desk_reports.specs.Streams.{IsPrintedOf}
use Rattle.desk_reports.specs.declared.fault.StreamFault.{StreamFault}

-- what was gathered before and then this text were printed, but for what is still gathered
abbrev pub Gathers : {W : Type 0} → (W → Option (List ℕ)) → CountedWriter W → List ℕ
    → CountedWriter W → List ℕ → List ℕ → Type 0
Gathers contents old had new has text =
    (printed : List ℕ) × Prints contents old new printed × (printed ++ has ≡ had ++ text)

-- something was gathered, and it is so of this text
abbrev pub GathersText : {W : Type 0} → List ℕ → (W → Option (List ℕ)) → CountedWriter W → List ℕ
    → CountedWriter W → List ℕ → Result ⊤ StreamFault → Type 0
GathersText text contents old had new has result =
    (gathered : List ℕ) × Gathers contents old had new has gathered
    × IsPrintedOf text gathered result

-- the same, where the watches are in order
abbrev pub GathersRow : {W : Type 0} → List Watcher → List ℕ → (W → Option (List ℕ))
    → CountedWriter W → List ℕ → CountedWriter W → List ℕ → Result ⊤ StreamFault → Type 0
GathersRow watches text contents old had new has result =
    (gathered : List ℕ) × Gathers contents old had new has gathered
    × (WatchesRise watches → IsPrintedOf text gathered result)
