use Rattle.store_core.proofs.change.write_stay.Goals as goal

pub returns-in-Some-clause-made : goal.returns-in-Some-clause-made
returns-in-Some-clause-made g c =
    rw (← c.as_slice.ensures, ← c.begun_on.ensures, c.in-Some.is)
    (rw c.as_slice-in-Some.ensures at c.begin_stay.ensures.begun)
