-- the law of the definitions
use Rattle.desk_core.proofs.Moved.{every}
use Rattle.desk_core.proofs.Taken as taken
use Rattle.desk_core.proofs.laws.others_law.Goals as goal
use Rattle.desk_core.specs.Laws.{OthersLaw}

pub returns : goal.returns
returns c = every OthersLaw taken.others_law
