use Rattle.store_core.proofs.AheadLemmas.{told_dated}
use Rattle.store_core.proofs.store.Store.next_filed.Goals as goal

pub returns-in-Some-clause-given : goal.returns-in-Some-clause-given
returns-in-Some-clause-given g c = rw c.in-Some.is (told_dated c.next.ensures)
