use Rattle.store_tables.proofs.ReadingLemmas.{if_ok}
use Rattle.store_core.proofs.HistoryLemmas.{the_stays_of}
use Rattle.store_core.proofs.store.Store.stays_of.Goals as goal

pub returns-clause-listed : goal.returns-clause-listed
returns-clause-listed g c desk is stand clean =
    if_ok c.stays_of.result (λ xs. the_stays_of desk is c.args.id xs.items)
    (c.stays_of.ensures.read.told _ stand.1 clean)
