-- what is told of the rows is what is told of the desk
use Rattle.std.proofs.Common.{◌∙◌}
use Rattle.store_tables.specs.Contents.{contents_of}
use Rattle.store_tables.proofs.Spared.{stands}
use Rattle.store_core.specs.Due.{due_of_row}
use Rattle.desk_reports.proofs.ShownLemmas.{loads_of}
use Rattle.desk_reports.proofs.reports.workload.Goals as goal

pub returns-clause-told : goal.returns-clause-told
returns-clause-told g c desk is stand clean =
    let due = due_of_row c.args.call.settings.now desk in
    let first = stands c.watches_of.ensures.kept (contents_of due desk) stand in
    let second = stands c.queues.ensures.kept (contents_of due desk) first in
    let clean-second = c.dated_requests.ensures.kept.clean clean in
    let clean-first = c.queues.ensures.kept.clean clean-second in
    loads_of c.args.call.at c.args.call.settings.now c.args.call.caller.now desk is
    c.as_slice-watches.result.now c.as_slice-queues.result.now c.in_ok-rows.rows.items
    c.in_ok-loads.loads
    (record {
      own =
          c.as_slice-watches.ensures.value
          ∙ c.in_ok-watches.ensures.listed desk is (due, stand) clean-first;
      all_queues =
          c.as_slice-queues.ensures.value
          ∙ c.in_ok-queues.ensures.listed desk is (due, first) clean-second;
      all_rows = c.in_ok-rows.ensures.listed desk is due second clean;
    })
    c.in_ok-loads.ensures
