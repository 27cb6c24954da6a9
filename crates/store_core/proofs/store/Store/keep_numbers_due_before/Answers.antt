use Rattle.store_core.proofs.AheadLemmas.{overdue_ahead}
use Rattle.store_core.proofs.store.Store.keep_numbers_due_before.Goals as goal

pub returns-clause-ahead : goal.returns-clause-ahead
returns-clause-ahead g c desk is due stand clean =
    let read = c.in_ok-numbers.ensures.read.told _ stand clean in
    rw c.from.ensures (overdue_ahead due desk is c.args.at _ read)
