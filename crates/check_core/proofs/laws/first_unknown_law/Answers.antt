use Rattle.check_core.proofs.Naming.{known_of_none}
use Rattle.check_core.proofs.laws.first_unknown_law.Goals as goal

pub returns : goal.returns
returns c = known_of_none
