use Rattle.store_tables.proofs.StepLemmas.{does_both}
use Rattle.store_core.proofs.change.put_last.Goals as goal

pub returns-in_ok-end_before-in-Some-clause-put : goal.returns-in_ok-end_before-in-Some-clause-put
returns-in_ok-end_before-in-Some-clause-put g c =
    let did = does_both c.in_ok-end_before-in-Some.ensures.ended c.put_stay.ensures.put in
    rw c.in-Some.is (rw c.saturating_sub.ensures at did)
