-- what is seen of the tables is what the command is decided by
use Rattle.store_core.specs.Due.{due_of_row}
use Rattle.service_core.proofs.stream.admit.Goals as goal

pub returns-clause-admitted : goal.returns-clause-admitted
returns-clause-admitted g c = λ desk is stand clean.
    c.admit_seeing-admitted.ensures desk
    (c.in_ok-facts.ensures.told desk is (due_of_row c.args.call.settings.now desk, stand) clean)
