-- each column is what the formatter makes of its text
use Rattle.std.proofs.Common.{rules, arith}
use Rattle.desk_texts.proofs.Columns.{left-padded, right-padded}
use Rattle.desk_texts.proofs.texts.listed.put_columns.Goals as goal
use Rattle.desk_texts.specs.Texts.Listed.{columns}

pub returns : goal.returns
unfolding columns
returns c =
    rw (
      ← right-padded 7 c.args.id.now (omega arith),
      ← left-padded 20 c.args.status.now (omega arith),
      ← left-padded 20 c.args.owner.now (omega arith),
      ← left-padded 16 c.args.due.now (omega arith),
    ) (search rules)
