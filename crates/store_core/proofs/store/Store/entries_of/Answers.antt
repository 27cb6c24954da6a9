use Rattle.store_tables.proofs.ReadingLemmas.{if_ok}
use Rattle.store_core.proofs.HistoryLemmas.{the_history}
use Rattle.store_core.proofs.store.Store.entries_of.Goals as goal

pub returns-clause-listed : goal.returns-clause-listed
returns-clause-listed g c desk is stand clean =
    if_ok c.entries_of.result (λ xs. the_history desk is c.args.id xs.items)
    (c.entries_of.ensures.read.told _ stand.1 clean)
