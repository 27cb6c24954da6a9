-- each column is what the formatter makes of its text
use Rattle.std.proofs.Common.{rules, arith}
use Rattle.desk_texts.specs.Texts.History.{columns}
use Rattle.desk_texts.proofs.Columns.{left-padded, number-padded}
use Rattle.desk_texts.proofs.texts.history.put_columns.Goals as goal

pub returns : goal.returns
unfolding columns
returns c = rw (← left-padded 20 c.args.person.now (omega arith), ← number-padded 5 c.args.number)
    (search rules)
