use Rattle.store_tables.proofs.ReadingLemmas.{if_ok}
use Rattle.store_core.proofs.RiseLemmas.{the_queues}
use Rattle.store_core.proofs.store.Store.queues.Goals as goal

pub returns-clause-listed : goal.returns-clause-listed
returns-clause-listed g c desk is stand clean =
    if_ok c.queues.result (λ xs. the_queues desk.queues xs.items is.queues)
    (c.queues.ensures.read.told _ stand.1 clean)
