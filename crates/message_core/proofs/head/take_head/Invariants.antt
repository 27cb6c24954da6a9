-- what was taken is what the reader has lost, a byte each turn, and no head is among it
use Rattle.std.proofs.Common.{◌≡◌, ◌≢◌, ◌≤◌, ◌+◌, true, length}
use Rattle.std.specs.Io.KnownBytes.{Consumes}
use Rattle.httparse.specs.Spans.{RequestOverflows}
use Rattle.stream_core.specs.Seen.{HaveOneReader, has_read_failed, left_in, reads_of}
use Rattle.message_core.specs.Head.{HasNoLimitedHead, are_line_ends}
use Rattle.message_core.specs.declared.head.HeadSoFar.TheVariants.{Begun}
use Rattle.message_core.proofs.head.take_head.Given as goal

abbrev pub invariant-loop-turn : goal.invariant-loop-turn
invariant-loop-turn g l = record {
  one : HaveOneReader l.reader l.initial.reader;
  lost : Consumes (left_in g.R.Read.remaining l.initial.reader)
      (left_in g.R.Read.remaining l.reader) l.taken.items;
  count : length l.taken.items ≡ l._turn;
  front : l.front ≢ Begun → are_line_ends l.taken.items ≡ true;
  none : HasNoLimitedHead l.taken.items;
  crowded : l.crowded ≡ true → RequestOverflows 32 l.taken.items;
  failed : has_read_failed l.reader ≡ has_read_failed l.initial.reader;
  reads : reads_of l.reader ≤ reads_of l.initial.reader + l._turn;
}
