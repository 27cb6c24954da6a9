use Rattle.std.proofs.Common.{◌∙◌, ◌&&◌, Err, ap, ap₂, map, rules, Result}
use Rattle.std.specs.Prelude.{⊤}
use Rattle.store_tables.specs.Contents.Request.{row_of}
use Rattle.store_tables.proofs.Spared.{joined, stands_for}
use Rattle.store_core.specs.Seen.{state_of}
use Rattle.store_tables.specs.declared.fault.StoreFault.{StoreFault}
use Rattle.store_tables.proofs.Contents.Watcher.{watcher_table}
use Rattle.store_tables.proofs.RowLemmas.{blames_of}
use Rattle.store_tables.proofs.ReadOn.{blames_after, blames_failed}
use Rattle.service_core.specs.Attaching.{GoodPersons, knows_rows}
use Rattle.service_core.proofs.TestLemmas.{tests_as, tests_of, tests_then}
use Rattle.service_core.proofs.attach.is_known.Goals as goal

pub returns-clause-told : goal.returns-clause-told
returns-clause-told g c rise desk is stand clean =
    let histories_clean = c.watchers.ensures.kept.clean clean in
    let after_links = stands_for c.read_links.ensures.kept desk stand in
    let after_histories = stands_for c.knows_histories.ensures.kept desk after_links in
    c.both.ensures
    ∙ ap₂ ◌&&◌
    (c.knows_rows-rows.ensures rise
    ∙ ap (knows_rows c.args.settings.now c.args.queues.now (map row_of c.args.dated.now))
    (c.as_slice.ensures.value ∙ c.in_ok-watchers.ensures.listed desk is after_histories clean))
    (c.in_ok-histories.ensures.told desk is after_links histories_clean)

pub returns-in_err-watchers-clause-fault : goal.returns-in_err-watchers-clause-fault
returns-in_err-watchers-clause-fault g c =
    let before = state_of g.S.Store c.knows_histories.new.store in
    let new = state_of g.S.Store c.watchers.new.self in
    let result : Result ⊤ StoreFault = Err c.in_err-watchers.field-0.0 in
    blames_failed (blames_after (joined c.read_links.ensures.kept c.knows_histories.ensures.kept)
    c.watchers.ensures.kept.clean
    (blames_of watcher_table before new result c.in_err-watchers.ensures.tested.fails)) (search rules)

pub returns-in_err-watchers-clause-kept : goal.returns-in_err-watchers-clause-kept
returns-in_err-watchers-clause-kept g c =
    joined (joined c.read_links.ensures.kept c.knows_histories.ensures.kept)
    c.watchers.ensures.kept

pub returns-in_err-histories-clause-kept : goal.returns-in_err-histories-clause-kept
returns-in_err-histories-clause-kept g c =
    joined c.read_links.ensures.kept c.knows_histories.ensures.kept

pub returns-in_err-histories-clause-fault : goal.returns-in_err-histories-clause-fault
returns-in_err-histories-clause-fault g c =
    blames_failed (blames_after c.read_links.ensures.kept c.knows_histories.ensures.kept.clean
    c.in_err-histories.ensures.fault) (search rules)

pub returns-clause-kept : goal.returns-clause-kept
returns-clause-kept g c =
    joined (joined c.read_links.ensures.kept c.knows_histories.ensures.kept)
    c.watchers.ensures.kept

pub returns-clause-tested : goal.returns-clause-tested
returns-clause-tested g c =
    let those = tests_then (joined c.read_links.ensures.kept c.knows_histories.ensures.kept)
    c.watchers.ensures.kept (tests_then c.read_links.ensures.kept c.knows_histories.ensures.kept
    c.in_ok-read_links.ensures.tested c.in_ok-histories.ensures.tested)
    (tests_of c.in_ok-watchers.ensures.tested) in
    tests_as {Q = GoodPersons} those
    (λ db it. record { links = it.0.0; entries = it.0.1; watchers = it.1 })
