-- a head was lost, and what follows it
use Rattle.std.proofs.Common.{◌+◌, arith}
use Rattle.stream_core.specs.Seen.{left_in}
use Rattle.stream_core.proofs.ReaderLemmas.{consumes_within}
use Rattle.message_core.specs.Limits.{most_of}
use Rattle.message_core.proofs.request.read_request_counted.Goals as goal

pub returns-in-Ok-clause-taken : goal.returns-in-Ok-clause-taken
returns-in-Ok-clause-taken g c =
    let left = left_in g.R.Read.remaining in
    consumes_within (left c.args.reader.now) (left c.take_head.new.reader)
    (left c.read_after.new.reader) 8192 (most_of c.args.limit) (8192 + most_of c.args.limit)
    c.take_head.ensures.taken c.read_after.ensures.taken (omega arith)
