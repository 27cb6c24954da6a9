use Rattle.store_tables.proofs.ReadingLemmas.{if_ok}
use Rattle.store_core.proofs.RiseLemmas.{link_total, the_list, links_rise}
use Rattle.store_core.proofs.store.Store.links.Goals as goal

pub returns-clause-listed : goal.returns-clause-listed
returns-clause-listed g c desk is stand clean =
    if_ok c.links.result (λ xs. the_list link_total desk.links xs.items (links_rise desk is))
    (c.links.ensures.read.told _ stand.1 clean)
