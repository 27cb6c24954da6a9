use Rattle.std.proofs.Common.{inl}
use Rattle.store_tables.proofs.Spared.{failed_leaves, shown_leaves}
use Rattle.store_tables.proofs.query.TablesShows.select.Goals as goal

pub returns-in-Ok-clause-leaves : goal.returns-in-Ok-clause-leaves
returns-in-Ok-clause-leaves g c = shown_leaves c.args.sql.now _ _ _ c.requires
    c.query_all.ensures.survives c.in-Ok.rows c.in-Ok.rows.items c.in-Ok.ensures.ok

pub returns-in-Err-clause-leaves : goal.returns-in-Err-clause-leaves
returns-in-Err-clause-leaves g c = failed_leaves c.args.sql.now _ _ _ c.requires
    c.query_all.ensures.survives c.in-Err.field-0 (λ clean. inl (c.in-Err.ensures.err clean))
