-- the law of the definitions
use Rattle.desk_core.proofs.Moved as moved
use Rattle.desk_core.proofs.Moved.{every}
use Rattle.desk_core.proofs.laws.owner_law.Goals as goal
use Rattle.desk_core.specs.Laws.{OwnerLaw}

pub returns : goal.returns
returns c = every OwnerLaw moved.owner_law
