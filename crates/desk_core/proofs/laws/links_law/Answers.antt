-- the law of the definitions
use Rattle.desk_core.proofs.Linked as linked
use Rattle.desk_core.proofs.Moved.{every}
use Rattle.desk_core.proofs.laws.links_law.Goals as goal
use Rattle.desk_core.specs.Laws.{LinksLaw}

pub returns : goal.returns
returns c = every LinksLaw linked.links_law
