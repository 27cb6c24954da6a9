use Rattle.store_tables.proofs.StepLemmas.{does_both}
use Rattle.store_core.proofs.change.write_persons.Goals as goal

pub returns-clause-made : goal.returns-clause-made
returns-clause-made g c =
    does_both (rw c.as_slice.ensures at c.in_ok-put_all.ensures.put)
    (rw c.as_slice-2.ensures at c.take_all.ensures.taken)
