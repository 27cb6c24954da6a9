-- the rows are judged by lists that are the desk's
use Rattle.std.proofs.Common.{[], refl}
use Rattle.store_core.specs.Due.{due_of_row}
use Rattle.desk_finds.proofs.FoundLemmas.{open_from}
use Rattle.desk_finds.proofs.reading.open_rows.Goals as goal

pub returns-clause-told : goal.returns-clause-told
returns-clause-told g c desk is stand clean own queues =
    let s = c.args.call.settings.now in
    open_from s c.args.call.at c.args.call.caller.now desk is c.args.own.now c.args.queues.now
    c.open_ones-search.result c.in_ok-rows.rows.items c.asked_rows.result.items own queues
    c.open_ones-search.ensures (c.in_ok-rows.ensures.listed desk is (due_of_row s desk) stand clean)
    c.asked_rows.ensures
