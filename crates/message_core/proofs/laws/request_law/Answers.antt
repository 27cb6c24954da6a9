use Rattle.message_core.proofs.Elsewhere.{elsewhere, of_stream}
use Rattle.message_core.proofs.Heads.{head_of_stream}
use Rattle.message_core.proofs.MessageLemmas.{message_read}
use Rattle.message_core.proofs.laws.request_law.Goals as goal

pub returns-clause-message : goal.returns-clause-message
returns-clause-message c = message_read

pub returns-clause-elsewhere : goal.returns-clause-elsewhere
returns-clause-elsewhere c = elsewhere

pub returns-clause-stream : goal.returns-clause-stream
returns-clause-stream c = of_stream

pub returns-clause-head : goal.returns-clause-head
returns-clause-head c = head_of_stream
