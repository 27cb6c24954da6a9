-- the law of the definitions
use Rattle.desk_core.proofs.Moved.{every}
use Rattle.desk_core.proofs.Taken as taken
use Rattle.desk_core.proofs.laws.orders_law.Goals as goal
use Rattle.desk_core.specs.Laws.{OrderLaw}

pub returns : goal.returns
returns c = every OrderLaw taken.order_law
