use Rattle.store_tables.proofs.DueLemmas.{rows_dated}
use Rattle.store_tables.proofs.ReadingLemmas.{if_ok}
use Rattle.store_core.proofs.RiseLemmas.{the_requests, requests_rise}
use Rattle.store_core.proofs.store.Store.requests.Goals as goal

pub returns-clause-listed : goal.returns-clause-listed
returns-clause-listed g c desk is stand clean =
    if_ok c.requests.result (λ xs. the_requests _ xs.items (requests_rise desk is))
    (rw (rows_dated stand.0 desk) at (c.requests.ensures.read.told _ stand.1 clean))
