-- the law of the definitions
use Rattle.desk_core.proofs.Moved.{every}
use Rattle.desk_core.proofs.Taken as taken
use Rattle.desk_core.proofs.laws.hidden_law.Goals as goal
use Rattle.desk_core.specs.Laws.{HiddenLaw}

pub returns : goal.returns
returns c = every HiddenLaw taken.hidden_law
