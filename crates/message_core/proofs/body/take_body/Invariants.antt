-- what was taken is what the reader has lost, a byte or more by each read
use Rattle.std.proofs.Common.{◌≡◌, ◌≤◌, ◌+◌, ◌-◌, length}
use Rattle.std.specs.Io.KnownBytes.{Consumes}
use Rattle.stream_core.specs.Seen.{HaveOneReader, has_read_failed, left_in, reads_of}
use Rattle.message_core.proofs.body.take_body.Given as goal

abbrev pub invariant-loop-chunk : goal.invariant-loop-chunk
invariant-loop-chunk g l = record {
  one : HaveOneReader l.reader l.initial.reader;
  lost : Consumes (left_in g.R.Read.remaining l.initial.reader)
      (left_in g.R.Read.remaining l.reader) l.body.items;
  within : length l.body.items ≤ l.wanted;
  failed : has_read_failed l.reader ≡ has_read_failed l.initial.reader;
  counted : reads_of l.reader ≤ reads_of l.initial.reader + length l.body.items;
}

abbrev pub decreases-loop-chunk : goal.decreases-loop-chunk
decreases-loop-chunk g l = l.wanted - length l.body.items
