-- the laws of the definitions
use Rattle.desk_core.proofs.Moved.{every}
use Rattle.desk_core.proofs.Taken as taken
use Rattle.desk_core.proofs.Told as told
use Rattle.desk_core.proofs.laws.status_told_law.Goals as goal
use Rattle.desk_core.specs.Laws.{ToldLaw}

pub returns-clause-empty : goal.returns-clause-empty
returns-clause-empty c = told.empty_told

pub returns-clause-step : goal.returns-clause-step
returns-clause-step c = every ToldLaw taken.told_law
