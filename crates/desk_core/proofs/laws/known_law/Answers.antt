-- the law of the definitions
use Rattle.desk_core.proofs.Moved.{every}
use Rattle.desk_core.proofs.Taken as taken
use Rattle.desk_core.proofs.laws.known_law.Goals as goal
use Rattle.desk_core.specs.Laws.{NamesLaw}

pub returns : goal.returns
returns c = every NamesLaw taken.names_law
