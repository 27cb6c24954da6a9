use Rattle.std.proofs.Common.{rules, arith}
use Rattle.desk_texts.proofs.Columns.{left-padded}
use Rattle.desk_texts.proofs.texts.queues.put_line.Goals as goal

pub returns : goal.returns
returns c =
    rw (
      ← left-padded 20 c.args.queue.now (omega arith),
      ← left-padded 20 c.args.lifecycle.now
          (omega arith),
    ) (search rules)
