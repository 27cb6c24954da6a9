use Rattle.store_tables.proofs.ReadingLemmas.{if_ok}
use Rattle.store_core.proofs.RiseLemmas.{dated_total, the_list, dated_rise}
use Rattle.store_core.proofs.store.Store.dated_requests.Goals as goal

pub returns-clause-listed : goal.returns-clause-listed
returns-clause-listed g c desk is due stand clean =
    if_ok c.dated_requests.result (λ xs. the_list dated_total _ xs.items (dated_rise due desk is))
    (c.dated_requests.ensures.read.told _ stand clean)
