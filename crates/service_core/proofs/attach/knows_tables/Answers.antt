-- the settings know what was read
use Rattle.std.proofs.Common.{◌∙◌, Err, rules, subst, sym, Result}
use Rattle.std.specs.Prelude.{⊤}
use Rattle.std.proofs.lemmas.Result.{IfOk-weaker, on_ok_weaker}
use Rattle.report_core.specs.Rows.{QueuesRise}
use Rattle.store_core.specs.Seen.{state_of}
use Rattle.store_tables.proofs.Spared.{joined, stands_for}
use Rattle.store_tables.specs.declared.fault.StoreFault.{StoreFault}
use Rattle.store_tables.proofs.Contents.Request.{dated_table}
use Rattle.store_tables.proofs.RowLemmas.{blames_of}
use Rattle.store_tables.proofs.Contents.Queue.{queue_table}
use Rattle.store_tables.proofs.Contents.Stay.{stay_table}
use Rattle.store_tables.proofs.ReadOn.{blames_after, blames_failed}
use Rattle.service_core.proofs.AttachLemmas.{all_good}
use Rattle.service_core.proofs.KnownLemmas.{known_of_dated}
use Rattle.service_core.proofs.TestLemmas.{tests_of, tests_then}
use Rattle.service_core.proofs.attach.knows_tables.Goals as goal

pub returns-in_err-dated-clause-fault : goal.returns-in_err-dated-clause-fault
returns-in_err-dated-clause-fault g c =
    let old = state_of g.S.Store c.args.store.now in
    let new = state_of g.S.Store c.dated_requests.new.self in
    let result : Result ⊤ StoreFault = Err c.in_err-dated.field-0.0 in
    blames_failed (blames_of dated_table old new result c.in_err-dated.ensures.tested.fails)
    (search rules)

pub returns-in_err-queues-clause-fault : goal.returns-in_err-queues-clause-fault
returns-in_err-queues-clause-fault g c =
    let before = state_of g.S.Store c.dated_requests.new.self in
    let new = state_of g.S.Store c.queues.new.self in
    let result : Result ⊤ StoreFault = Err c.in_err-queues.field-0.0 in
    blames_failed (blames_after c.dated_requests.ensures.kept c.queues.ensures.kept.clean
    (blames_of queue_table before new result c.in_err-queues.ensures.tested.fails)) (search rules)

pub returns-in_err-stays-clause-fault : goal.returns-in_err-stays-clause-fault
returns-in_err-stays-clause-fault g c =
    let before = state_of g.S.Store c.queues.new.self in
    let new = state_of g.S.Store c.stays.new.self in
    let result : Result ⊤ StoreFault = Err c.in_err-stays.field-0.0 in
    blames_failed (blames_after (joined c.dated_requests.ensures.kept c.queues.ensures.kept)
    c.stays.ensures.kept.clean
    (blames_of stay_table before new result c.in_err-stays.ensures.tested.fails)) (search rules)

pub returns-clause-fault : goal.returns-clause-fault
returns-clause-fault g c =
    blames_after (joined (joined c.dated_requests.ensures.kept c.queues.ensures.kept)
    c.stays.ensures.kept) c.is_known.ensures.kept.clean c.is_known.ensures.fault

pub returns-clause-kept : goal.returns-clause-kept
returns-clause-kept g c =
    joined (joined (joined c.dated_requests.ensures.kept c.queues.ensures.kept)
    c.stays.ensures.kept) c.is_known.ensures.kept

pub returns-clause-told : goal.returns-clause-told
returns-clause-told g c desk is stand clean =
    let stays_clean = c.is_known.ensures.kept.clean clean in
    let queues_clean = c.stays.ensures.kept.clean stays_clean in
    let dated_clean = c.queues.ensures.kept.clean queues_clean in
    let after_dated = stands_for c.dated_requests.ensures.kept desk stand in
    let after_queues = stands_for c.queues.ensures.kept desk after_dated in
    let after_stays = stands_for c.stays.ensures.kept desk after_queues in
    let those =
    c.as_slice-2.ensures.value
    ∙ c.in_ok-dated.ensures.listed desk is stand.0 stand.1 dated_clean in
    let these =
    c.as_slice.ensures.value
    ∙ c.in_ok-queues.ensures.listed desk is after_dated queues_clean in
    IfOk-weaker c.is_known.result _ _
    (λ found same. known_of_dated c.args.settings.now desk stand.0 _ _ found these those same)
    (c.is_known.ensures.told (subst QueuesRise (sym these) is.queues) desk is after_stays clean)

pub returns-clause-tested : goal.returns-clause-tested
returns-clause-tested g c =
    let rows = tests_then c.dated_requests.ensures.kept c.queues.ensures.kept
    (tests_of c.in_ok-dated.ensures.tested) (tests_of c.in_ok-queues.ensures.tested) in
    let durations = tests_then (joined c.dated_requests.ensures.kept c.queues.ensures.kept)
    c.stays.ensures.kept rows (tests_of c.in_ok-stays.ensures.tested) in
    on_ok_weaker c.is_known.result
    (λ persons.
    let all = tests_then (joined (joined c.dated_requests.ensures.kept c.queues.ensures.kept)
    c.stays.ensures.kept) c.is_known.ensures.kept durations persons in
    λ there clean. all_good (all.good there clean))
    c.is_known.ensures.tested
