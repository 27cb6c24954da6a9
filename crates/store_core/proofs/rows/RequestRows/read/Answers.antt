use Rattle.store_core.proofs.AheadLemmas.{given_all, given_next}
use Rattle.store_core.proofs.rows.RequestRows.read.Goals as goal

pub returns-in-Ok-Some-clause-given : goal.returns-in-Ok-Some-clause-given
returns-in-Ok-Some-clause-given g c desk is due stand clean =
    given_next _ _ _
    (rw c.in-Ok-Some.field-0-is at (c.in-Ok-Some.ensures.given desk is due stand clean))

pub returns-in-Ok-None-clause-given : goal.returns-in-Ok-None-clause-given
returns-in-Ok-None-clause-given g c desk is due stand clean =
    given_all _
    (rw c.in-Ok-None.field-0-is at (c.in-Ok-None.ensures.given desk is due stand clean))
