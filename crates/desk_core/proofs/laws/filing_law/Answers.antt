-- the law of the definitions
use Rattle.desk_core.proofs.Filed as filed
use Rattle.desk_core.proofs.Moved.{every}
use Rattle.desk_core.proofs.laws.filing_law.Goals as goal
use Rattle.desk_core.specs.Laws.{FilingLaw}

pub returns : goal.returns
returns c = every FilingLaw filed.filing_law
