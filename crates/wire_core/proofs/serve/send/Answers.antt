-- both texts were written, one after the other
use Rattle.stream_core.proofs.WriterLemmas.{prints_both}
use Rattle.wire_core.proofs.serve.send.Goals as goal

pub returns-then-failed-clause-printed : goal.returns-then-failed-clause-printed
returns-then-failed-clause-printed g c =
    prints_both g.W.Write.contents c.args.output.now c.put.new.self c.put-2.new.self c.args.head.now
    c.args.text.now c.put.ensures.printed c.put-2.ensures.printed

pub returns-else-failed-clause-printed : goal.returns-else-failed-clause-printed
returns-else-failed-clause-printed g c =
    prints_both g.W.Write.contents c.args.output.now c.put.new.self c.put-2.new.self c.args.head.now
    c.args.text.now c.put.ensures.printed c.put-2.ensures.printed
