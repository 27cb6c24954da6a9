use Rattle.std.proofs.Common.{◌∙◌, rules}
use Rattle.store_tables.proofs.ReadOn.{failed_at, giving, then}
use Rattle.store_core.proofs.FactsLemmasOfDesk.{request_alone}
use Rattle.store_core.proofs.facts.request_facts.Goals as goal

pub returns : goal.returns
returns g c =
    giving (λ d it desk of.
    c.build_request_facts.ensures
    ∙ request_alone desk c.args.id _ _ _ (c.from.ensures ∙ c.new.ensures.items) (it.0 desk of)
    (it.1 desk of))
    (then c.in_ok-request.ensures c.in_ok-queue.ensures)

pub returns-in_err-queue : goal.returns-in_err-queue
returns-in_err-queue g c =
    failed_at (then c.in_ok-request.ensures c.in_err-queue.ensures) (search rules)
