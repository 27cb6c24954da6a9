-- the law of the definitions
use Rattle.desk_core.proofs.Moved as moved
use Rattle.desk_core.proofs.Moved.{every}
use Rattle.desk_core.proofs.laws.status_law.Goals as goal
use Rattle.desk_core.specs.Laws.{StatusLaw}

pub returns : goal.returns
returns c = every StatusLaw moved.status_law
