-- the laws of the definitions
use Rattle.desk_core.proofs.DeskLaw as desk
use Rattle.desk_core.proofs.Moved.{every}
use Rattle.desk_core.proofs.Taken as taken
use Rattle.desk_core.proofs.laws.desk_law.Goals as goal
use Rattle.desk_core.specs.Laws.{DeskLaw}

pub returns-clause-empty : goal.returns-clause-empty
returns-clause-empty c = desk.empty_is_desk

pub returns-clause-step : goal.returns-clause-step
returns-clause-step c = every DeskLaw taken.desk_law
