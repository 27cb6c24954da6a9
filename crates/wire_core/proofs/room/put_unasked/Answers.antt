use Rattle.std.proofs.Common.{subst, sym}
use Rattle.message_core.specs.Reply.{IsReply}
use Rattle.wire_core.proofs.Forms.{unasked_form}
use Rattle.wire_core.proofs.room.put_unasked.Goals as goal

pub put-requires-clause-reply : goal.put-requires-clause-reply
put-requires-clause-reply c =
    subst IsReply (sym c.in-Ok.ensures) (unasked_form c.args.head_only c.args.unasked)
