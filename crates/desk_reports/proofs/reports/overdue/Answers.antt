-- what is told of the rows that are due is what is told of the desk
use Rattle.std.proofs.Common.{◌∙◌}
use Rattle.store_tables.specs.Contents.{contents_of}
use Rattle.store_tables.proofs.Spared.{stands}
use Rattle.store_core.specs.Due.{due_of_row}
use Rattle.desk_reports.proofs.ShownLemmas.{late_of}
use Rattle.desk_reports.proofs.reports.overdue.Goals as goal

pub returns-clause-told : goal.returns-clause-told
returns-clause-told g c desk is stand clean =
    let due = due_of_row c.args.call.settings.now desk in
    let after = stands c.watches_of.ensures.kept (contents_of due desk) stand in
    let clean-before = c.requests_due_before.ensures.kept.clean clean in
    late_of c.args.call.at c.args.call.settings.now c.args.call.caller.now desk is
    c.as_slice-own.result.now c.in_ok-rows.rows.items c.in_ok-lines.lines
    (c.as_slice-own.ensures.value ∙ c.in_ok-watches.ensures.listed desk is (due, stand) clean-before)
    (c.in_ok-rows.ensures.listed desk is due after clean)
    c.in_ok-lines.ensures
