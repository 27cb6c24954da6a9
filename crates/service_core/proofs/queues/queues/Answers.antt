-- the one queue that the caller sees is what the command tells
use Rattle.std.proofs.Common.{◌∙◌, ap, subst, sym}
use Rattle.desk_model.specs.Rights.{holds_on_queue}
use Rattle.desk_model.specs.declared.answer.Answer.TheVariants.{Queues}
use Rattle.rights_core.specs.Right.{see_queue}
use Rattle.store_tables.proofs.ReadingLemmas.{if_ok}
use Rattle.service_core.specs.QueueVisibility.{IsSight}
use Rattle.service_core.proofs.SightLemmas.{one_seen}
use Rattle.service_core.proofs.queues.queues.Goals as goal

pub returns-in-One-clause-told : goal.returns-in-One-clause-told
returns-in-One-clause-told g c at facts desk is stand clean =
    let sees = holds_on_queue c.args.settings.now c.args.caller.now see_queue in
    if_ok c.one_queue.result
    (λ answer told seen. told
    ∙ ap Queues (sym (one_seen sees c.in-One.name.now
    (subst (λ s. IsSight s sees) c.in-One.is c.visible_queues.ensures) desk.queues is.queues)))
    (c.one_queue.ensures.told desk is stand clean)
