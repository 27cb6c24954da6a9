use Rattle.std.proofs.Common.{rules}
use Rattle.store_tables.proofs.StepLemmas.{does_all, does_more}
use Rattle.store_tables.proofs.written.put_all.Goals as goal

pub loop-row-preserved : goal.loop-row-preserved
loop-row-preserved g c =
    let done = does_more g.T.Put.put_in c.args.rows.now (search rules) c.row-item.is
    c.loop-row.invariant.done c.in_ok-put.ensures.put in search rules

pub returns-clause-put : goal.returns-clause-put
returns-clause-put g c =
    does_all g.T.Put.put_in c.args.rows.now (search rules) c.loop-row.invariant.done
