use Rattle.client_core.proofs.Laid.{leads}
use Rattle.client_core.proofs.laws.path_law.Goals as goal

pub returns : goal.returns
returns c = leads c.rows_law.ensures
