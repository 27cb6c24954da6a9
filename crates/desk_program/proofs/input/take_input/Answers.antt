-- the bytes taken so far are more than an input may have
use Rattle.std.proofs.Common.{◌<◌, ◌+◌, ◌++◌, ◌∙◌, length, arith, rules}
use Rattle.desk_program.specs.Input.{input_limit}
use Rattle.stream_core.specs.Seen.{left_in, reads_of}
use Rattle.stream_core.proofs.ReaderLemmas.{consumes_at_most_both, consumes_both}
use Rattle.desk_program.proofs.LongInput.{is_longer}
use Rattle.desk_program.proofs.ReadCounts.{asked_more}
use Rattle.desk_program.proofs.input.take_input.Goals as goal

pub returns-then-len-gt-MAX_INPUT-clause-long : goal.returns-then-len-gt-MAX_INPUT-clause-long
returns-then-len-gt-MAX_INPUT-clause-long g c = λ _.
    let left = left_in g.R.Read.remaining in
    let some = c.in-Ok.ensures.read in
    let lost = consumes_both (left c.args.reader.now)
    (left c.loop-turn.reader) (left c.take_some.new.reader)
    c.loop-turn.taken.items some.1.0 c.loop-turn.invariant.lost some.1.2 in
    let long : input_limit < length (c.loop-turn.taken.items ++ some.1.0) =
    rw (← some.1.1) (omega arith) in
    is_longer input_limit _ _ _ lost long

pub returns-in-Err-clause-left : goal.returns-in-Err-clause-left
returns-in-Err-clause-left g c =
    let left = left_in g.R.Read.remaining in
    let low : c.loop-turn.turn < input_limit + 1 = search rules in
    record {
      same = c.take_some.ensures.same_reader ∙ c.loop-turn.invariant.same;
      taken = consumes_at_most_both (left c.args.reader.now)
          (left c.loop-turn.reader) (left c.take_some.new.reader)
          c.loop-turn.taken.items (input_limit + 1) c.loop-turn.invariant.lost
          c.take_some.ensures.taken (omega arith);
      reads = omega (arith, low, c.loop-turn.invariant.counted, c.take_some.ensures.reads);
    }

pub returns-then-len-gt-MAX_INPUT-clause-left : goal.returns-then-len-gt-MAX_INPUT-clause-left
returns-then-len-gt-MAX_INPUT-clause-left g c =
    let left = left_in g.R.Read.remaining in
    let low : c.loop-turn.turn < input_limit + 1 = search rules in
    record {
      same = c.take_some.ensures.same_reader ∙ c.loop-turn.invariant.same;
      taken = consumes_at_most_both (left c.args.reader.now)
          (left c.loop-turn.reader) (left c.take_some.new.reader)
          c.loop-turn.taken.items (input_limit + 1) c.loop-turn.invariant.lost
          c.take_some.ensures.taken (omega arith);
      reads = omega (arith, low, c.loop-turn.invariant.counted, c.take_some.ensures.reads);
    }

pub returns-in-Ok-eq0-clause-left : goal.returns-in-Ok-eq0-clause-left
returns-in-Ok-eq0-clause-left g c =
    let left = left_in g.R.Read.remaining in
    let low : c.loop-turn.turn < input_limit + 1 = search rules in
    record {
      same = c.take_some.ensures.same_reader ∙ c.loop-turn.invariant.same;
      taken = consumes_at_most_both (left c.args.reader.now)
          (left c.loop-turn.reader) (left c.take_some.new.reader)
          c.loop-turn.taken.items (input_limit + 1) c.loop-turn.invariant.lost
          c.take_some.ensures.taken (omega arith);
      reads = omega (arith, low, c.loop-turn.invariant.counted, c.take_some.ensures.reads);
    }

pub returns-in-Err-clause-asked : goal.returns-in-Err-clause-asked
returns-in-Err-clause-asked g c =
    asked_more (reads_of c.args.reader.now) (reads_of c.loop-turn.reader)
    (reads_of c.take_some.new.reader) c.loop-turn.invariant.since c.take_some.ensures.asked

pub returns-then-len-gt-MAX_INPUT-clause-asked : goal.returns-then-len-gt-MAX_INPUT-clause-asked
returns-then-len-gt-MAX_INPUT-clause-asked g c =
    asked_more (reads_of c.args.reader.now) (reads_of c.loop-turn.reader)
    (reads_of c.take_some.new.reader) c.loop-turn.invariant.since c.take_some.ensures.asked

pub returns-in-Ok-eq0-clause-asked : goal.returns-in-Ok-eq0-clause-asked
returns-in-Ok-eq0-clause-asked g c =
    asked_more (reads_of c.args.reader.now) (reads_of c.loop-turn.reader)
    (reads_of c.take_some.new.reader) c.loop-turn.invariant.since c.take_some.ensures.asked
