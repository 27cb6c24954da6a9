use Rattle.store_tables.specs.Contents.Request.{is_filed_in}
use Rattle.store_tables.proofs.DueLemmas.{rows_dated}
use Rattle.store_tables.proofs.ReadingLemmas.{if_ok}
use Rattle.store_core.proofs.RiseLemmas.{id_total, the_part, requests_rise}
use Rattle.store_core.proofs.store.Store.requests_of.Goals as goal

pub returns-clause-listed : goal.returns-clause-listed
returns-clause-listed g c desk is stand clean =
    if_ok _ (λ xs.
    the_part id_total (is_filed_in c.args.queue.now) _ xs.items (requests_rise desk is))
    (rw (rows_dated stand.0 desk) at (c.requests_of.ensures.read.told _ stand.1 clean))
