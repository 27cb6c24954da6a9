use Rattle.std.proofs.Common.{rules}
use Rattle.store_tables.proofs.ReadOn.{failed_at, giving, then}
use Rattle.store_core.proofs.FactsLemmasOfDesk.{end_read}
use Rattle.store_core.proofs.facts.other_end.Goals as goal

pub returns : goal.returns
returns g c =
    giving (λ d it desk of.
    end_read desk c.args.link c.args.has_source _ _ (it.0 desk of)
    (rw c.is_some.ensures at (it.1 desk of)))
    (then c.in_ok-other.ensures c.in_ok-is_linked.ensures)

pub returns-in_err-is_linked : goal.returns-in_err-is_linked
returns-in_err-is_linked g c =
    failed_at (then c.in_ok-other.ensures c.in_err-is_linked.ensures) (search rules)
