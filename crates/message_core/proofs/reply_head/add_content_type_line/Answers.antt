use Rattle.std.proofs.Common.{codes}
use Rattle.message_core.specs.ReplyHead.{content_type_line}
use Rattle.message_core.proofs.PieceLemmas.{then_added}
use Rattle.message_core.proofs.reply_head.add_content_type_line.Goals as goal

pub returns-clause-added : goal.returns-clause-added
unfolding content_type_line
returns-clause-added c =
    then_added c.add_text-2.result c.args.out.now.items c.add_text.new.out.items c.add_text-2.new.out.items
    (codes "\r\nContent-Type: ") c.args.kind.now c.in_ok-add_text.ensures.added c.add_text-2.ensures.added
