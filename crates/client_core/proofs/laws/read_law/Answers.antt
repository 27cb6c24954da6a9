use Rattle.client_core.proofs.ReadBack.{asks_for_it}
use Rattle.client_core.proofs.laws.read_law.Goals as goal

pub returns : goal.returns
returns c = asks_for_it c.rows_law.ensures
