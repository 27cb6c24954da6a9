use Rattle.store_tables.proofs.ReadingLemmas.{if_ok}
use Rattle.store_core.proofs.RiseLemmas.{standing_total, the_list, watches_rise}
use Rattle.store_core.proofs.store.Store.watches_of.Goals as goal

pub returns-clause-listed : goal.returns-clause-listed
returns-clause-listed g c desk is stand clean =
    if_ok _ (λ xs. the_list standing_total _ xs.items (watches_rise desk is c.args.person.now))
    (c.watches_of.ensures.read.told _ stand.1 clean)
