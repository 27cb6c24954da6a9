use Rattle.store_tables.proofs.ReadOn.{telling}
use Rattle.store_core.proofs.FactsLemmas.{found_queue}
use Rattle.store_core.proofs.seen_request.queue_at.Goals as goal

pub returns : goal.returns
returns g c =
    telling (λ d q found desk of.
    found_queue c.args.name.now desk.queues q (rw of.same at found)) c.queue_named.ensures.read
