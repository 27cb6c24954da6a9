use Rattle.store_tables.proofs.StandLemmas.{begins}
use Rattle.store_tables.proofs.ShownDated.{dated_begun}
use Rattle.store_core.proofs.apply.apply_change.Goals as goal

pub returns-clause-done : goal.returns-clause-done
returns-clause-done g c d stand =
    c.finish.ensures.done _ (c.in_ok-write_change.ensures.made.makes d
    (begins g.S.Store c.args.tables.now.conn _ d c.transaction-tx.ensures.begun stand))

pub returns-clause-shown : goal.returns-clause-shown
returns-clause-shown g c d shown =
    c.finish.ensures.dated _ (c.in_ok-write_change.ensures.made.shows d
    (dated_begun g.S.Store c.args.tables.now.conn _ d.dated c.transaction-tx.ensures.begun shown))
