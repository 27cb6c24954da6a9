use Rattle.std.proofs.Common.{rules}
use Rattle.store_tables.proofs.StepLemmas.{does_all, does_more}
use Rattle.store_tables.proofs.written.take_all.Goals as goal

pub loop-row-preserved : goal.loop-row-preserved
loop-row-preserved g c =
    let done = does_more g.T.Take.taken_out c.args.rows.now (search rules) c.row-item.is
    c.loop-row.invariant.done c.in_ok-take.ensures.taken in search rules

pub returns-clause-taken : goal.returns-clause-taken
returns-clause-taken g c =
    does_all g.T.Take.taken_out c.args.rows.now (search rules) c.loop-row.invariant.done
