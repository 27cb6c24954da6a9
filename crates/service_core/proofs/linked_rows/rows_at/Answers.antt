use Rattle.std.proofs.Common.{◌∙◌, ◌++◌, ◌<◌, ap, length, rules}
use Rattle.std.proofs.lemmas.List.{take_all}
use Rattle.std.specs.Option.{option_to_list}
use Rattle.desk_model.specs.View.{view}
use Rattle.store_core.proofs.FactsLemmasOfDesk.{flat_map_more}
use Rattle.store_core.specs.Found.{request_row_at}
use Rattle.store_tables.proofs.Spared.{joined, stands_for}
use Rattle.service_core.specs.LinkedRows.{rows_at}
use Rattle.service_core.proofs.linked_rows.rows_at.Goals as goal

pub loop-number-preserved : goal.loop-number-preserved
loop-number-preserved g c =
    let low : c.loop-number.number-index < length c.args.numbers.now = search rules in
    let so_far = c.loop-number.invariant in
    let shows = c.shown_row.ensures in
    record {
      told =
          λ desk is stand clean.
          flat_map_more (λ id. option_to_list (request_row_at (view c.args.settings.now
          c.args.caller.now desk) id)) c.args.numbers.now c.loop-number.number-index 0 _ _ low
          (c.in_ok-put_if.ensures ∙ ap (λ row. c.loop-number.rows.items ++ option_to_list row)
          (c.in_ok-row.ensures.told desk is (stands_for so_far.kept desk stand) clean))
          (so_far.told desk is stand (shows.kept.clean clean));
      kept = joined so_far.kept shows.kept;
    }

pub returns-clause-told : goal.returns-clause-told
returns-clause-told g c desk is stand clean =
    c.loop-number.invariant.told desk is stand clean
    ∙ ap (rows_at (view c.args.settings.now c.args.caller.now desk))
    (take_all c.loop-number.number-index c.args.numbers.now c.loop-number-test.false)

pub returns-in_err-row-clause-kept : goal.returns-in_err-row-clause-kept
returns-in_err-row-clause-kept g c =
    joined c.loop-number.invariant.kept c.shown_row.ensures.kept

pub returns-in_err-put_if-clause-kept : goal.returns-in_err-put_if-clause-kept
returns-in_err-put_if-clause-kept g c =
    joined c.loop-number.invariant.kept c.shown_row.ensures.kept
