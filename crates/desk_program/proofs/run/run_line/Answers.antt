-- the text of the line was printed
use Rattle.desk_program.proofs.run.run_line.Goals as goal

pub returns-in-Ok-clause-printed : goal.returns-in-Ok-clause-printed
returns-in-Ok-clause-printed g c =
    (c.in-Ok.text.items, c.in-Ok.ensures.ok, rw c.as_slice.ensures.value at c.put.ensures.printed)
