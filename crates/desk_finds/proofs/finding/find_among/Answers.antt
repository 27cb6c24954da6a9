-- what was read and put together is what is found
use Rattle.std.proofs.Common.{◌∙◌, ap}
use Rattle.std.specs.Prelude.{filter_map, length, map}
use Rattle.store_tables.specs.Contents.{contents_of}
use Rattle.store_tables.proofs.Spared.{stands}
use Rattle.store_core.specs.Due.{due_of_row}
use Rattle.desk_finds.specs.Found.{found_of, placed_by}
use Rattle.desk_finds.proofs.FoundLemmas.{as_findings, findings_are}
use Rattle.desk_finds.proofs.finding.find_among.Goals as goal

pub returns-clause-told : goal.returns-clause-told
returns-clause-told g c desk is stand clean covers =
    let s = c.args.call.settings.now in
    let caller = c.args.call.caller.now in
    let search = c.args.search.now in
    let due = due_of_row s desk in
    let first = stands c.watches_by.ensures.kept (contents_of due desk) stand in
    let second = stands c.placed.ensures.kept (contents_of due desk) first in
    let clean-second = c.found.ensures.kept.clean clean in
    let clean-first = c.placed.ensures.kept.clean clean-second in
    ap (λ rows. as_findings rows c.in_ok-count.count) c.from.ensures
    ∙ findings_are s c.args.call.at caller search desk is c.args.limit c.args.after
    c.args.own.now c.as_slice.result.now c.args.queues.now c.args.rows.now
    c.in_ok-placed.placed.items c.in_ok-page.page.items c.in_ok-found.found.items c.in_ok-count.count
    covers
    (c.as_slice.ensures.value ∙ c.in_ok-theirs.ensures.told desk is (due, stand) clean-first)
    (λ own theirs rise. c.in_ok-placed.ensures.told own theirs rise desk is (due, first) clean-second)
    c.in_ok-page.ensures
    (λ own rise up. c.in_ok-found.ensures.told own rise up desk is (due, second) clean
    ∙ ap (map (found_of s caller c.args.own.now c.args.queues.now c.args.rows.now desk))
    c.as_slice-3.ensures.value)
    (c.in_ok-count.ensures.ok ∙ ap length c.as_slice-2.ensures.value)
