-- the laws of the definitions
use Rattle.desk_core.proofs.NamesLaw as names
use Rattle.desk_core.proofs.laws.names_law.Goals as goal

pub returns-clause-rises : goal.returns-clause-rises
returns-clause-rises c = names.names_in_order_rise

pub returns-clause-same : goal.returns-clause-same
returns-clause-same c = names.names_in_order_stay
