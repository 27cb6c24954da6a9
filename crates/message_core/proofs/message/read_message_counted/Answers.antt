-- the message of what was read with its head
use Rattle.std.proofs.Common.{ap}
use Rattle.stream_core.specs.Seen.{left_in}
use Rattle.message_core.specs.Request.{message_in}
use Rattle.message_core.proofs.MessageLemmas.{Sent, message_read}
use Rattle.message_core.proofs.message.read_message_counted.Goals as goal

pub returns-in-Err-clause-read : goal.returns-in-Err-clause-read
returns-in-Err-clause-read g c = λ read memory.
    let left = left_in g.R.Read.remaining in
    message_read (left c.args.reader.now) (left c.read_request_counted.new.reader)
    (Sent c.in-Err.fault)
    (c.in-Err.ensures.read (λ e. read (ap message_in e)) (λ e. memory (ap message_in e)))
