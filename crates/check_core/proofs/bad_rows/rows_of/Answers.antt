use Rattle.std.proofs.Common.{inl}
use Rattle.store_tables.proofs.Meaning.{alone}
use Rattle.store_tables.proofs.Spared.{failed_leaves, shown_leaves}
use Rattle.check_core.specs.Columns.{statement_of}
use Rattle.check_core.specs.declared.columns.Version.TheVariants.{Present}
use Rattle.check_core.proofs.BadRows.{means, present}
use Rattle.check_core.proofs.bad_rows.rows_of.Goals as goal

pub returns-in-Ok-clause-shown : goal.returns-in-Ok-clause-shown
returns-in-Ok-clause-shown g c clean =
    rw c.statement_of.ensures at (c.in-Ok.ensures.ok clean)

pub returns-in-Ok-clause-leaves : goal.returns-in-Ok-clause-leaves
returns-in-Ok-clause-leaves g c = shown_leaves (statement_of c.args.table) _ _ _
    (alone (means Present c.args.table (present c.args.table))) (rw c.statement_of.ensures at c.query_all.ensures.survives)
    c.in-Ok.rows c.in-Ok.rows.items (rw c.statement_of.ensures at c.in-Ok.ensures.ok)

pub returns-in-Err-clause-leaves : goal.returns-in-Err-clause-leaves
returns-in-Err-clause-leaves g c = failed_leaves (statement_of c.args.table) _ _ _
    (alone (means Present c.args.table (present c.args.table))) (rw c.statement_of.ensures at c.query_all.ensures.survives)
    c.in-Err.field-0 (λ clean. inl (rw c.statement_of.ensures at (c.in-Err.ensures.err clean)))
