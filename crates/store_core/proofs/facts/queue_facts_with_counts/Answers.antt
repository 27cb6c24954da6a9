use Rattle.std.proofs.Common.{◌∙◌, rules}
use Rattle.store_tables.proofs.ReadOn.{failed_at, giving, then}
use Rattle.store_core.specs.Found.{build_queue_facts}
use Rattle.store_core.proofs.FactsLemmasOfDesk.{queues_counted, requests_read}
use Rattle.store_core.proofs.facts.queue_facts_with_counts.Goals as goal

pub returns : goal.returns
returns g c =
    giving (λ d it desk of.
    c.build_queue_facts.ensures ∙ (λ t. build_queue_facts (it.1 desk of t) (it.0.0 desk of t) (it.0.1 desk of t)))
    (then (then (queues_counted c.in_ok-queues.ensures.read)
    (requests_read c.in_ok-requests.ensures)) c.in_ok-queue.ensures)

pub returns-in_err-requests : goal.returns-in_err-requests
returns-in_err-requests g c =
    let queues = queues_counted c.in_ok-queues.ensures.read in
    failed_at (then queues (requests_read c.in_err-requests.ensures)) (search rules)

pub returns-in_err-queue : goal.returns-in_err-queue
returns-in_err-queue g c =
    failed_at (then (then (queues_counted c.in_ok-queues.ensures.read)
    (requests_read c.in_ok-requests.ensures)) c.in_err-queue.ensures) (search rules)
