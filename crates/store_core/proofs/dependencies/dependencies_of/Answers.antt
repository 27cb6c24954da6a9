use Rattle.store_tables.proofs.ReadOn.{telling, then}
use Rattle.store_core.proofs.FactsLemmasOfDesk.{dependencies_are}
use Rattle.store_core.proofs.dependencies.dependencies_of.Goals as goal

pub returns : goal.returns
returns g c =
    telling (λ d ds it desk of.
    dependencies_are desk c.args.id _ ds of.is (rw of.same at it.0) (it.1 desk of))
    (then c.in_ok-links.ensures (rw c.as_slice.ensures.value at c.dependencies_by.ensures))
