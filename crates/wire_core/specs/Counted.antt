-- What a call leaves of a counted reader.
use Rattle.std.specs.Prelude.{◌≡◌, ◌≤◌, ◌+◌, ◌||◌, ℕ, Bool, List, Option}
use Rattle.stream_core.specs.Seen.{HaveOneReader, has_read_failed, left_in, reads_of}
use Rattle.stream_core.specs.Streams.{ConsumesAtMost}
use Rattle.stream_core.specs.declared.reader.CountedReader.{CountedReader}

-- The same reader, which lost at most so many bytes, in at most as many reads.
pub record LeavesReader {R : Type 0} (remaining : R → Option (List ℕ)) (most : ℕ)
    (old new : CountedReader R) : Type 0 where
  pub same : HaveOneReader new old
  pub taken : ConsumesAtMost (left_in remaining old) (left_in remaining new) most
  pub reads : reads_of new ≤ reads_of old + most

-- The same, where it is told whether a read of the call failed.
pub record TellsReads {R : Type 0} (remaining : R → Option (List ℕ)) (most : ℕ) (failed : Bool)
    (old new : CountedReader R) : Type 0 where
  pub left : LeavesReader remaining most old new
  pub tells : has_read_failed new ≡ (failed || has_read_failed old)
