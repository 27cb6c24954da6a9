use Rattle.store_tables.proofs.Spared.{failed_leaves, shown_leaves}
use Rattle.store_tables.proofs.query.TransactionShows.select.Goals as goal

pub returns-in-Ok-clause-leaves : goal.returns-in-Ok-clause-leaves
returns-in-Ok-clause-leaves g c = shown_leaves c.args.sql.now _ _ _ c.requires
    c.query_all.ensures.survives c.in-Ok.rows c.in-Ok.rows.items c.in-Ok.ensures.ok

pub returns-in-Err-clause-leaves : goal.returns-in-Err-clause-leaves
returns-in-Err-clause-leaves g c = failed_leaves c.args.sql.now _ _ _ c.requires
    c.query_all.ensures.survives c.in-Err.field-0 c.in-Err.ensures.err
