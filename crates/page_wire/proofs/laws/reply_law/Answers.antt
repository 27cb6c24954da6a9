use Rattle.page_wire.proofs.ReplyHeads.{replies_are_stated}
use Rattle.page_wire.proofs.laws.reply_law.Goals as goal

pub returns : goal.returns
returns c = replies_are_stated
