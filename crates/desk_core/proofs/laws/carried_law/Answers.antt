-- the law of the definitions
use Rattle.desk_core.proofs.Carried as carried
use Rattle.desk_core.proofs.laws.carried_law.Goals as goal

pub returns : goal.returns
returns c = carried.carried_law
