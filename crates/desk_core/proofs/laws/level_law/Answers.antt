-- the law of the definitions
use Rattle.desk_core.proofs.Moved as moved
use Rattle.desk_core.proofs.Moved.{every}
use Rattle.desk_core.proofs.laws.level_law.Goals as goal
use Rattle.desk_core.specs.Laws.{LevelLaw}

pub returns : goal.returns
returns c = every LevelLaw moved.level_law
