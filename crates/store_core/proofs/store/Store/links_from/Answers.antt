use Rattle.store_tables.specs.Contents.Link.{starts_at}
use Rattle.store_tables.proofs.ReadingLemmas.{if_ok}
use Rattle.store_core.proofs.RiseLemmas.{link_total, the_part, links_rise}
use Rattle.store_core.proofs.store.Store.links_from.Goals as goal

pub returns-clause-listed : goal.returns-clause-listed
returns-clause-listed g c desk is stand clean =
    if_ok _ (λ xs. the_part link_total (starts_at c.args.source) _ xs.items (links_rise desk is))
    (c.links_from.ensures.read.told _ stand.1 clean)
