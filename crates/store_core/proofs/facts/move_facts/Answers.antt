use Rattle.std.proofs.Common.{◌∙◌, rules}
use Rattle.store_tables.proofs.ReadOn.{failed, giving, then}
use Rattle.store_core.specs.Found.{with_dependencies}
use Rattle.store_core.proofs.FactsLemmasOfDesk.{absent_facts}
use Rattle.store_core.proofs.facts.move_facts.Goals as goal

pub returns-then-is_none : goal.returns-then-is_none
returns-then-is_none g c =
    giving (λ d facts desk of. absent_facts desk c.args.id _ of.is (facts desk of) (search rules))
    c.in_ok-facts.ensures

pub returns-in-Ok : goal.returns-in-Ok
returns-in-Ok g c =
    giving (λ d it desk of.
    c.with_dependencies.ensures ∙ (λ t. with_dependencies (it.0 desk of t) (it.1 desk of t)))
    (then c.in_ok-facts.ensures c.in-Ok.ensures)

pub returns-in-Err : goal.returns-in-Err
returns-in-Err g c = failed (then c.in_ok-facts.ensures c.in-Err.ensures)
