use Rattle.check_core.specs.Rows.{histories, unknown_entry}
use Rattle.check_core.proofs.NamesRead.{first_of, second_of}
use Rattle.check_core.proofs.names.person_told.Goals as goal

pub returns-in-Some : goal.returns-in-Some
returns-in-Some g c =
    first_of (λ desk. unknown_entry c.args.settings.now (histories c.args.requests.now desk))
    (rw c.in-Some.is at c.in_ok-told.ensures)

pub returns-in-None : goal.returns-in-None
returns-in-None g c = second_of (rw c.in-None.is at c.in_ok-told.ensures) c.actor_told.ensures
