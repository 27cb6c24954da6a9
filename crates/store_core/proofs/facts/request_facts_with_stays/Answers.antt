use Rattle.std.proofs.Common.{◌∙◌, rules}
use Rattle.store_tables.proofs.ReadOn.{failed_at, giving, then}
use Rattle.store_core.proofs.FactsLemmasOfDesk.{request_facts}
use Rattle.store_core.proofs.facts.request_facts_with_stays.Goals as goal

pub returns : goal.returns
returns g c =
    giving (λ d it desk of.
    c.build_request_facts.ensures ∙ request_facts desk c.args.id _ _ _ (it.0.0 desk of)
    (rw c.is_some.ensures at (it.0.1 desk of)) (it.1 desk of))
    (then (then c.in_ok-request.ensures c.in_ok-stays.ensures) c.in_ok-queue.ensures)

pub returns-in_err-stays : goal.returns-in_err-stays
returns-in_err-stays g c =
    failed_at (then c.in_ok-request.ensures c.in_err-stays.ensures) (search rules)

pub returns-in_err-queue : goal.returns-in_err-queue
returns-in_err-queue g c =
    failed_at (then (then c.in_ok-request.ensures c.in_ok-stays.ensures) c.in_err-queue.ensures)
    (search rules)
