-- what it answers of the history, and the queue that is seen with the request
use Rattle.service_core.proofs.DossierLemmas.{made}
use Rattle.service_core.proofs.dossier.with_history.Goals as goal

pub returns-in-Ok-clause-told : goal.returns-in-Ok-clause-told
returns-in-Ok-clause-told g c id desk is stand clean =
    made c.args.call.settings.now c.args.call.at c.args.call.caller.now id desk
    c.args.facts.now c.args.shown
    c.in-Ok.entries c.with_queue.result (c.in-Ok.ensures.told id desk is stand clean)
    c.with_queue.ensures.shown c.with_queue.ensures.entries c.with_queue.ensures.queue
