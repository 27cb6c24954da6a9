use Rattle.store_tables.proofs.ReadingLemmas.{if_ok}
use Rattle.store_core.proofs.RiseLemmas.{the_list, watcher_total, watchers_rise}
use Rattle.store_core.proofs.store.Store.watchers.Goals as goal

pub returns-clause-listed : goal.returns-clause-listed
returns-clause-listed g c desk is stand clean =
    if_ok c.watchers.result (λ xs. the_list watcher_total _ xs.items (watchers_rise desk is))
    (c.watchers.ensures.read.told _ stand.1 clean)
