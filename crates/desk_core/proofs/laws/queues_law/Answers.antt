-- the law of the definitions
use Rattle.desk_core.proofs.Moved.{every}
use Rattle.desk_core.proofs.Opening as opening
use Rattle.desk_core.proofs.laws.queues_law.Goals as goal
use Rattle.desk_core.specs.Laws.{QueuesLaw}

pub returns : goal.returns
returns c = every QueuesLaw opening.queues_law
