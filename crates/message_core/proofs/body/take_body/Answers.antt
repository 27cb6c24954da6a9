-- what was lost before a read that failed, and what that read may have lost
use Rattle.stream_core.specs.Seen.{left_in}
use Rattle.stream_core.proofs.ReaderLemmas.{consumes_at_most_both}
use Rattle.message_core.proofs.body.take_body.Goals as goal

pub returns-in_err-take_some-clause-taken : goal.returns-in_err-take_some-clause-taken
returns-in_err-take_some-clause-taken g c =
    let left = left_in g.R.Read.remaining in
    consumes_at_most_both (left c.args.reader.now) (left c.loop-chunk.reader)
    (left c.take_some.new.reader) c.loop-chunk.body.items c.args.wanted
    c.loop-chunk.invariant.lost c.take_some.ensures.taken c.loop-chunk.invariant.within
