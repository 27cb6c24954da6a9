-- the settings know what was read, and what was read is renewed
use Rattle.std.proofs.Common.{◌∙◌, ◌≡◌, Err, Ok, rules, subst, sym, Result}
use Rattle.std.specs.Prelude.{true, ⊤}
use Rattle.std.proofs.lemmas.Result.{IfOk-weaker}
use Rattle.desk_model.specs.Known.{is_known}
use Rattle.report_core.specs.Rows.{QueuesRise}
use Rattle.store_core.specs.Seen.{state_of}
use Rattle.store_tables.specs.Contents.{contents_of}
use Rattle.store_tables.proofs.Spared.{joined, stands, stands_for}
use Rattle.store_tables.specs.declared.fault.StoreFault.{StoreFault}
use Rattle.store_tables.proofs.Contents.Request.{dated_table}
use Rattle.store_tables.proofs.RowLemmas.{blames_of}
use Rattle.store_tables.proofs.Contents.Queue.{queue_table}
use Rattle.store_tables.proofs.Contents.Stay.{stay_table}
use Rattle.store_tables.proofs.ReadOn.{blames_after, blames_refused}
use Rattle.service_core.specs.Attaching.{knows_names}
use Rattle.service_core.specs.declared.renewal.Renewal.{Renewal}
use Rattle.service_core.specs.declared.renewal.Renewal.TheVariants.{UnknownName}
use Rattle.service_core.proofs.AttachLemmas.{all_good, spared_unless_done, tests_failed}
use Rattle.service_core.proofs.AttachLemmas.{unless_done_after}
use Rattle.service_core.proofs.KnownLemmas.{known_of_dated}
use Rattle.service_core.proofs.TestLemmas.{anyway, tests_of, tests_then}
use Rattle.service_core.proofs.attach.renew_known.Goals as goal

pub returns-in_err-dated-clause-tested : goal.returns-in_err-dated-clause-tested
returns-in_err-dated-clause-tested g c =
    let old = state_of g.S.Store c.args.store.now in
    let new = state_of g.S.Store c.dated_requests.new.self in
    let result : Result ⊤ StoreFault = Err c.in_err-dated.field-0.0 in
    tests_failed (blames_of dated_table old new result c.in_err-dated.ensures.tested.fails) (search rules)

pub returns-in_err-queues-clause-tested : goal.returns-in_err-queues-clause-tested
returns-in_err-queues-clause-tested g c =
    let before = state_of g.S.Store c.dated_requests.new.self in
    let new = state_of g.S.Store c.queues.new.self in
    let result : Result ⊤ StoreFault = Err c.in_err-queues.field-0.0 in
    tests_failed (blames_after c.dated_requests.ensures.kept c.queues.ensures.kept.clean
    (blames_of queue_table before new result c.in_err-queues.ensures.tested.fails)) (search rules)

pub returns-in_err-stays-clause-tested : goal.returns-in_err-stays-clause-tested
returns-in_err-stays-clause-tested g c =
    let before = state_of g.S.Store c.queues.new.self in
    let new = state_of g.S.Store c.stays.new.self in
    let result : Result ⊤ StoreFault = Err c.in_err-stays.field-0.0 in
    tests_failed (blames_after (joined c.dated_requests.ensures.kept c.queues.ensures.kept)
    c.stays.ensures.kept.clean (blames_of stay_table before new result c.in_err-stays.ensures.tested.fails))
    (search rules)

pub returns-then-not-branch-clause-told : goal.returns-then-not-branch-clause-told
returns-then-not-branch-clause-told g c desk is stand clean =
    let stays_clean = c.is_known.ensures.kept.clean clean in
    let queues_clean = c.stays.ensures.kept.clean stays_clean in
    let dated_clean = c.queues.ensures.kept.clean queues_clean in
    let after_dated = stands_for c.dated_requests.ensures.kept desk stand in
    let after_queues = stands_for c.queues.ensures.kept desk after_dated in
    let after_stays = stands_for c.stays.ensures.kept desk after_queues in
    let those =
    c.as_slice-dated.ensures.value
    ∙ c.in_ok-dated.ensures.listed desk is stand.0 stand.1 dated_clean in
    let these =
    c.as_slice-queues.ensures.value
    ∙ c.in_ok-queues.ensures.listed desk is after_dated queues_clean in
    known_of_dated c.args.settings.now desk stand.0 _ _ c.in_ok-is_known.field-0 these those
    (c.in_ok-is_known.ensures.told (subst QueuesRise (sym these) is.queues) desk is after_stays
    clean)
    ∙ c.if-not-branch.true

pub returns-clause-told : goal.returns-clause-told
returns-clause-told g c desk is stand clean =
    let known_clean = c.renew.ensures.left.keeps.clean clean in
    let stays_clean = c.is_known.ensures.kept.clean known_clean in
    let queues_clean = c.stays.ensures.kept.clean stays_clean in
    let dated_clean = c.queues.ensures.kept.clean queues_clean in
    let after_dated = stands_for c.dated_requests.ensures.kept desk stand in
    let after_queues = stands_for c.queues.ensures.kept desk after_dated in
    let after_stays = stands_for c.stays.ensures.kept desk after_queues in
    let those =
    c.as_slice-dated.ensures.value
    ∙ c.in_ok-dated.ensures.listed desk is stand.0 stand.1 dated_clean in
    let these =
    c.as_slice-queues.ensures.value
    ∙ c.in_ok-queues.ensures.listed desk is after_dated queues_clean in
    let all_known =
    known_of_dated c.args.settings.now desk stand.0 _ _ c.in_ok-is_known.field-0 these those
    (c.in_ok-is_known.ensures.told (subst QueuesRise (sym these) is.queues) desk is after_stays
    known_clean)
    ∙ c.if-not-branch.false in
    IfOk-weaker c.renew.result (λ came. knows_names came ≡ true)
    (λ came. is_known c.args.settings.now desk ≡ knows_names came)
    (λ came e. all_known ∙ sym e) c.renew.ensures.known

pub returns-clause-renewed : goal.returns-clause-renewed
returns-clause-renewed g c known desk is stand clean live =
    let known_clean = c.renew.ensures.left.keeps.clean clean in
    let stays_clean = c.is_known.ensures.kept.clean known_clean in
    let queues_clean = c.stays.ensures.kept.clean stays_clean in
    let dated_clean = c.queues.ensures.kept.clean queues_clean in
    let after_dated = stands_for c.dated_requests.ensures.kept desk stand in
    let after_queues = stands_for c.queues.ensures.kept desk after_dated in
    let those =
    c.as_slice-dated.ensures.value
    ∙ c.in_ok-dated.ensures.listed desk is stand.0 stand.1 dated_clean in
    let these =
    c.as_slice-queues.ensures.value
    ∙ c.in_ok-queues.ensures.listed desk is after_dated queues_clean in
    let all = c.in_ok-stays.ensures.listed desk is after_queues stays_clean in
    c.renew.ensures.renewed known desk is stand.0 these all those
    (stands (joined (joined (joined c.dated_requests.ensures.kept c.queues.ensures.kept)
    c.stays.ensures.kept) c.is_known.ensures.kept) (contents_of stand.0 desk) stand.1) clean live

pub returns-in_err-is_known-clause-tested : goal.returns-in_err-is_known-clause-tested
returns-in_err-is_known-clause-tested g c =
    tests_failed (blames_after (joined (joined c.dated_requests.ensures.kept
    c.queues.ensures.kept) c.stays.ensures.kept) c.is_known.ensures.kept.clean
    c.in_err-is_known.ensures.fault) (search rules)

pub returns-then-not-branch-clause-tested : goal.returns-then-not-branch-clause-tested
returns-then-not-branch-clause-tested g c =
    let rows = tests_then c.dated_requests.ensures.kept c.queues.ensures.kept
    (tests_of c.in_ok-dated.ensures.tested) (tests_of c.in_ok-queues.ensures.tested) in
    let durations = tests_then (joined c.dated_requests.ensures.kept c.queues.ensures.kept)
    c.stays.ensures.kept rows (tests_of c.in_ok-stays.ensures.tested) in
    let all = tests_then (joined (joined c.dated_requests.ensures.kept c.queues.ensures.kept)
    c.stays.ensures.kept) c.is_known.ensures.kept durations c.in_ok-is_known.ensures.tested in
    let answered : Result Renewal StoreFault = Ok UnknownName in
    record {
      tested = λ there clean. all_good (all.good there clean);
      blames = blames_refused answered tt;
    }

pub returns-clause-tested : goal.returns-clause-tested
returns-clause-tested g c =
    let rows = tests_then c.dated_requests.ensures.kept c.queues.ensures.kept
    (tests_of c.in_ok-dated.ensures.tested) (tests_of c.in_ok-queues.ensures.tested) in
    let durations = tests_then (joined c.dated_requests.ensures.kept c.queues.ensures.kept)
    c.stays.ensures.kept rows (tests_of c.in_ok-stays.ensures.tested) in
    let all = tests_then (joined (joined c.dated_requests.ensures.kept c.queues.ensures.kept)
    c.stays.ensures.kept) c.is_known.ensures.kept durations c.in_ok-is_known.ensures.tested in
    record {
      tested =
          anyway c.renew.result
          (λ there clean. all_good (all.good there (c.renew.ensures.left.keeps.clean clean)));
      blames = blames_refused c.renew.result c.renew.ensures.fault;
    }

pub returns-in_err-dated-clause-left : goal.returns-in_err-dated-clause-left
returns-in_err-dated-clause-left g c = spared_unless_done c.dated_requests.ensures.kept

pub returns-in_err-queues-clause-left : goal.returns-in_err-queues-clause-left
returns-in_err-queues-clause-left g c =
    spared_unless_done (joined c.dated_requests.ensures.kept c.queues.ensures.kept)

pub returns-in_err-stays-clause-left : goal.returns-in_err-stays-clause-left
returns-in_err-stays-clause-left g c =
    spared_unless_done (joined (joined c.dated_requests.ensures.kept c.queues.ensures.kept)
    c.stays.ensures.kept)

pub returns-in_err-is_known-clause-left : goal.returns-in_err-is_known-clause-left
returns-in_err-is_known-clause-left g c =
    spared_unless_done (joined (joined (joined c.dated_requests.ensures.kept
    c.queues.ensures.kept) c.stays.ensures.kept) c.is_known.ensures.kept)

pub returns-then-not-branch-clause-left : goal.returns-then-not-branch-clause-left
returns-then-not-branch-clause-left g c =
    spared_unless_done (joined (joined (joined c.dated_requests.ensures.kept
    c.queues.ensures.kept) c.stays.ensures.kept) c.is_known.ensures.kept)

pub returns-clause-left : goal.returns-clause-left
returns-clause-left g c =
    unless_done_after (joined (joined (joined c.dated_requests.ensures.kept
    c.queues.ensures.kept) c.stays.ensures.kept) c.is_known.ensures.kept) c.renew.ensures.left
