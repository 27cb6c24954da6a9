use Rattle.desk_pages.proofs.Loads.{workload_same}
use Rattle.desk_pages.proofs.laws.workload_page_law.Goals as goal

pub returns : goal.returns
returns c = workload_same
