use Rattle.std.proofs.Common.{◌∙◌, Err, None, Result, Some, rules, sym}
use Rattle.std.specs.Option.{option_map}
use Rattle.std.specs.Prelude.{⊤}
use Rattle.store_core.specs.Seen.{state_of}
use Rattle.store_tables.specs.declared.fault.StoreFault.{StoreFault}
use Rattle.store_tables.proofs.Contents.Queue.{queue_table}
use Rattle.store_tables.proofs.Contents.Request.{request_table}
use Rattle.store_tables.proofs.ReadOn.{blames_after}
use Rattle.store_tables.proofs.RowLemmas.{blames_of}
use Rattle.store_tables.proofs.Spared.{joined, stands_for}
use Rattle.check_core.specs.Rows.{seen}
use Rattle.check_core.proofs.NamesRead.{first_of_person, first_of_row, told_after, told_by}
use Rattle.check_core.proofs.NamesRead.{told_failed}
use Rattle.check_core.proofs.names.first_name.Goals as goal

pub returns-in_err-queues : goal.returns-in_err-queues
returns-in_err-queues g c =
    let old = state_of g.S.Store c.args.store.now in
    let new = state_of g.S.Store c.queues.new.self in
    let result : Result ⊤ StoreFault = Err c.in_err-queues.field-0.0 in
    told_failed c.queues.ensures.kept
    (blames_of queue_table old new result c.in_err-queues.ensures.tested.fails) (search rules)

pub returns-in_err-requests : goal.returns-in_err-requests
returns-in_err-requests g c =
    let before = state_of g.S.Store c.queues.new.self in
    let new = state_of g.S.Store c.requests.new.self in
    let result : Result ⊤ StoreFault = Err c.in_err-requests.field-0.0 in
    told_failed (joined c.queues.ensures.kept c.requests.ensures.kept)
    (blames_after c.queues.ensures.kept c.requests.ensures.kept.clean
    (blames_of request_table before new result c.in_err-requests.ensures.tested.fails))
    (search rules)

pub returns-in-Some : goal.returns-in-Some
returns-in-Some g c =
    told_by (Some c.in-Some.unknown) (joined c.queues.ensures.kept c.requests.ensures.kept)
    (λ desk is stand clean.
    let queues_clean = c.requests.ensures.kept.clean clean in
    let these = c.as_slice.ensures.value
    ∙ c.in_ok-queues.ensures.listed desk is stand queues_clean in
    let those = c.as_slice-requests.ensures.value
    ∙ c.in_ok-requests.ensures.listed desk is (stands_for c.queues.ensures.kept desk stand) clean in
    first_of_row c.args.settings.now desk these those (seen c.in-Some.unknown)
    (rw c.in-Some.is at (sym c.unknown_row.ensures)))
    c.told.ensures.told c.told.ensures.fault

pub returns : goal.returns
returns g c =
    told_after (joined c.queues.ensures.kept c.requests.ensures.kept)
    (λ desk is stand clean.
    let queues_clean = c.requests.ensures.kept.clean clean in
    let these = c.as_slice.ensures.value
    ∙ c.in_ok-queues.ensures.listed desk is stand queues_clean in
    let those = c.as_slice-requests.ensures.value
    ∙ c.in_ok-requests.ensures.listed desk is (stands_for c.queues.ensures.kept desk stand) clean in
    first_of_person c.args.settings.now desk these those is
    (rw c.in-None.is at (sym c.unknown_row.ensures)))
    c.person_told.ensures
