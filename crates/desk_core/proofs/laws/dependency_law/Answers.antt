-- the law of the definitions
use Rattle.desk_core.proofs.Moved.{every}
use Rattle.desk_core.proofs.Taken as taken
use Rattle.desk_core.proofs.laws.dependency_law.Goals as goal
use Rattle.desk_core.specs.Laws.{DependsLaw}

pub returns : goal.returns
returns c = every DependsLaw taken.depends_law
