-- what was taken so far is what the reader has lost, and each turn took a byte by one read
use Rattle.std.proofs.Common.{◌≤◌, ◌+◌, ◌-◌, ◌^◌, length, min}
use Rattle.std.specs.Io.KnownBytes.{Consumes}
use Rattle.stream_core.specs.Seen.{HaveOneReader, left_in, reads_of}
use Rattle.desk_program.specs.Input.{input_limit}
use Rattle.desk_program.proofs.input.take_input.Given as goal

abbrev pub invariant-loop-turn : goal.invariant-loop-turn
invariant-loop-turn g l = record {
  same : HaveOneReader l.reader l.initial.reader;
  lost : Consumes (left_in g.R.Read.remaining l.initial.reader)
      (left_in g.R.Read.remaining l.reader) l.taken.items;
  within : length l.taken.items ≤ input_limit;
  turns : l.turn ≤ length l.taken.items;
  counted : reads_of l.reader ≤ reads_of l.initial.reader + l.turn;
  since : min (reads_of l.initial.reader) (2 ^ 64 - 1) ≤ reads_of l.reader;
}
