use Rattle.route_core.proofs.RowLemmas.{one_has_a_path}
use Rattle.route_core.proofs.laws.rows_law.Goals as goal

pub returns : goal.returns
returns c = one_has_a_path
