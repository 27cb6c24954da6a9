-- a head with more lines than 32 is the only one
use Rattle.message_core.proofs.HeadLemmas.{over_found}
use Rattle.message_core.proofs.head.head_status.Goals as goal

pub returns-else-spans-le-MAX_LINES-clause-refused :
    goal.returns-else-spans-le-MAX_LINES-clause-refused
returns-else-spans-le-MAX_LINES-clause-refused c = λ _.
    over_found c.args.bytes.now c.parse_request.new.headers c.in-Ok-Complete.spans
    (rw c.in-Ok-Complete.field-0-is at c.in-Ok-Complete.ensures.within)
    (rw c.in-Ok-Complete.field-0-is at c.in-Ok-Complete.ensures.complete)
    c.if-spans-le-MAX_LINES.false
