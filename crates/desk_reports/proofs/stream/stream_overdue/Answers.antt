-- what was printed of the rows is so of the text that the desk has
use Rattle.std.proofs.Common.{◌∙◌, rules, subst, sym}
use Rattle.sqlite.specs.State.{HasCleanDisk}
use Rattle.report_core.specs.Rows.{WatchesRise}
use Rattle.store_tables.specs.Contents.{contents_of}
use Rattle.store_tables.proofs.Spared.{stands}
use Rattle.store_core.specs.Due.{due_of_row}
use Rattle.store_core.specs.Seen.{state_of}
use Rattle.desk_reports.specs.Streams.{IsPrintedOf}
use Rattle.desk_reports.proofs.Reported.{watches_in_order}
use Rattle.desk_reports.proofs.ShownLemmas.{overdue_text}
use Rattle.desk_reports.proofs.stream.stream_overdue.Goals as goal

pub returns-clause-written : goal.returns-clause-written
returns-clause-written g c =
    let it = c.put_list.ensures.printed in (
      it.0,
      it.1,
      λ desk is stand clean.
          let s = c.args.call.settings.now in
          let person = c.args.call.caller.now in
          let due = due_of_row s desk in
          let begun = c.in_ok-rows.ensures.begun in
          let left = c.put_list.new.rows.store.now in
          let late : HasCleanDisk (state_of g.S.Store left) = search rules in
          let clean-rows = c.put_list.ensures.rows.kept.clean late in
          let first = stands c.watches_of.ensures.kept (contents_of due desk) stand in
          let next = stands begun.kept (contents_of due desk) first in
          let own = c.as_slice-own.ensures.value
          ∙ c.in_ok-watches.ensures.listed desk is (due, stand) (begun.kept.clean clean-rows) in
          let rows = begun.none_yet desk is due first clean-rows in
          subst (λ text. IsPrintedOf text it.0 c.put_list.result)
          (overdue_text c.args.call.at s person desk is c.as_slice-own.result.now rows.0 own rows.1)
          (it.2 (subst WatchesRise (sym own) (watches_in_order person desk is)) desk is due next
          late rows.0 rows.2),
    )
