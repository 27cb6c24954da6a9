-- each column is what the formatter makes of its text
use Rattle.std.proofs.Common.{rules, arith}
use Rattle.desk_texts.specs.Texts.Workload.{columns}
use Rattle.desk_texts.proofs.Columns.{left-padded, right-padded}
use Rattle.desk_texts.proofs.texts.workload.put_columns.Goals as goal

pub returns : goal.returns
unfolding columns
returns c =
    rw (
      ← left-padded 20 c.args.owner.now (omega arith),
      ← right-padded 7 c.args.live.now (omega arith),
      ← right-padded 7 c.args.overdue.now (omega arith),
    ) (search rules)
