use Rattle.std.proofs.Common.{◌∙◌}
use Rattle.store_tables.proofs.ReadOn.{giving}
use Rattle.store_core.proofs.FactsLemmasOfDesk.{link_read}
use Rattle.store_core.proofs.facts.is_linked_if.Goals as goal

pub returns-in_ok-linked : goal.returns-in_ok-linked
returns-in_ok-linked g c =
    giving (λ d it desk of.
    rw (c.if-has_source.true, c.if-has_target.true) (c.is_some.ensures ∙ it desk of))
    (link_read c.args.link c.in_ok-linked.ensures)
