use Rattle.std.proofs.Common.{◌∙◌}
use Rattle.store_tables.proofs.ReadOn.{failed, giving, then}
use Rattle.store_core.proofs.FactsLemmasOfDesk.{link_facts}
use Rattle.store_core.proofs.facts.link_facts.Goals as goal

pub returns-in-Ok : goal.returns-in-Ok
returns-in-Ok g c =
    giving (λ d it desk of.
    c.with_link.ensures ∙ link_facts desk c.args.link _ _ of.is (it.0 desk of)
    (rw c.is_some.ensures at (it.1 desk of))) (then c.in_ok-facts.ensures c.in-Ok.ensures)

pub returns-in-Err : goal.returns-in-Err
returns-in-Err g c = failed (then c.in_ok-facts.ensures c.in-Err.ensures)
