-- from the last number down
use Rattle.std.proofs.Common.{◌∙◌, ℕ, ap, sym}
use Rattle.store_tables.proofs.ReadingLemmas.{if_ok}
use Rattle.store_tables.proofs.Spared.{stands_for}
use Rattle.service_core.specs.Filed.{filed_to}
use Rattle.service_core.proofs.FiledLemmas.{of_create}
use Rattle.service_core.proofs.filed.among_newest.Goals as goal

pub returns-in_ok-last-in-Create-clause-filed : goal.returns-in_ok-last-in-Create-clause-filed
returns-in_ok-last-in-Create-clause-filed g c desk is stand clean =
    let s = c.args.call.settings.now in
    let at = c.args.call.at in
    let caller = c.args.call.caller.now in
    let create = c.args.create.now in
    let text = c.args.text.now in
    let last = c.in_ok-last-in-Create.ensures.told desk is stand (c.filed_to.ensures.kept.clean clean) in
    if_ok c.filed_to.result
    (λ found same. same ∙ ap (λ (n : ℕ). filed_to s at caller create text desk n 100) last
    ∙ sym (of_create s at caller create text desk c.in-Create.queue c.in-Create.subject
    c.in-Create.status c.in-Create.requestors c.in-Create.is))
    (c.filed_to.ensures.filed desk is (stands_for c.last_number.ensures.kept desk stand) clean)
