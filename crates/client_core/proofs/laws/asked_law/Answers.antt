use Rattle.client_core.proofs.Posted.{says}
use Rattle.client_core.proofs.laws.asked_law.Goals as goal

pub returns : goal.returns
returns c = says
