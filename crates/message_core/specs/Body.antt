-- A body that is cut short.
use Rattle.std.specs.Prelude.{ℕ, ◌<◌, List, length, Option}
use Rattle.std.specs.Io.KnownBytes.{Consumes, IsAtEnd}

-- a reader came to its end before it gave so many bytes
abbrev pub EndsWithin : ℕ → Option (List ℕ) → Option (List ℕ) → Type 0
EndsWithin wanted old new =
    (bytes : List ℕ) × (length bytes < wanted) × Consumes old new bytes × IsAtEnd new
