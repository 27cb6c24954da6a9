-- What a counted reader has left, what a counted writer holds, how often each was called, and
-- whether a call failed: the words by which crates above speak of them.
use Rattle.std.specs.Prelude.{◌≡◌, ℕ, Bool, List, Option}
use Rattle.stream_core.specs.declared.reader.CountedReader.{CountedReader}
use Rattle.stream_core.specs.declared.writer.CountedWriter.{CountedWriter}

-- ---- a reader

-- the bytes that are left in it, where they are known
abbrev pub left_in : {R : Type 0} → (R → Option (List ℕ)) → CountedReader R → Option (List ℕ)
left_in remaining counted = remaining counted.reader.now

abbrev pub reads_of : {R : Type 0} → CountedReader R → ℕ
reads_of counted = counted.reads

abbrev pub has_read_failed : {R : Type 0} → CountedReader R → Bool
has_read_failed counted = counted.failed

-- both count the calls of one reader
abbrev pub HaveOneReader : {R : Type 0} → CountedReader R → CountedReader R → Type 0
HaveOneReader a b = a.reader.ghost_name ≡ b.reader.ghost_name

-- ---- a writer

-- the bytes that it holds, where they are known
abbrev pub held_in : {W : Type 0} → (W → Option (List ℕ)) → CountedWriter W → Option (List ℕ)
held_in contents counted = contents counted.writer.now

abbrev pub writes_of : {W : Type 0} → CountedWriter W → ℕ
writes_of counted = counted.writes

abbrev pub has_write_failed : {W : Type 0} → CountedWriter W → Bool
has_write_failed counted = counted.failed

-- both count the calls of one writer
abbrev pub HaveOneWriter : {W : Type 0} → CountedWriter W → CountedWriter W → Type 0
HaveOneWriter a b = a.writer.ghost_name ≡ b.writer.ghost_name
