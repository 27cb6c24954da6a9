use Rattle.store_tables.proofs.ReadingLemmas.{if_ok}
use Rattle.store_core.proofs.HistoryLemmas.{the_stays}
use Rattle.store_core.proofs.store.Store.stays.Goals as goal

pub returns-clause-listed : goal.returns-clause-listed
returns-clause-listed g c desk is stand clean =
    if_ok c.stays.result (λ xs. the_stays desk is xs.items)
    (c.stays.ensures.read.told _ stand.1 clean)
