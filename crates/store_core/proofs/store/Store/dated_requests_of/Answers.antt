use Rattle.std.proofs.Common.{◌∙◌}
use Rattle.sqlite_trees.proofs.ListLemmas.{filter-map}
use Rattle.store_tables.specs.Contents.{request_rows}
use Rattle.store_tables.specs.Contents.Request.{dated_by, is_dated_in}
use Rattle.store_tables.proofs.ReadingLemmas.{if_ok}
use Rattle.store_core.proofs.RiseLemmas.{dated_total, the_part, dated_rise}
use Rattle.store_core.proofs.store.Store.dated_requests_of.Goals as goal

pub returns-clause-listed : goal.returns-clause-listed
returns-clause-listed g c desk is due stand clean =
    let filed = is_dated_in c.args.queue.now in
    if_ok c.dated_of.result
    (λ xs h. the_part dated_total filed _ xs.items (dated_rise due desk is) h
    ∙ filter-map filed (dated_by due) (request_rows desk))
    (c.dated_of.ensures.read.told _ stand clean)
