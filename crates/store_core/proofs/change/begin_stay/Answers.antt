use Rattle.store_core.proofs.change.begin_stay.Goals as goal

pub returns-clause-begun : goal.returns-clause-begun
returns-clause-begun g c =
    rw (c.in_ok-count.ensures.ok, c.last.ensures.value) at c.put_last.ensures.put
