use Rattle.store_tables.proofs.DueLemmas.{dues_on_desk}
use Rattle.store_core.proofs.store.Store.set_due_times.Goals as goal

pub returns-clause-done : goal.returns-clause-done
returns-clause-done g c desk due stand =
    rw (dues_on_desk c.args.dues.now due desk) at (c.write_dues.ensures.done _ stand)
