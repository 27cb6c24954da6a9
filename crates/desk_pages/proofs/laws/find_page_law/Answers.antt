use Rattle.desk_pages.proofs.Finds.{find_fault_same, find_same}
use Rattle.desk_pages.proofs.laws.find_page_law.Goals as goal

pub returns-clause-found : goal.returns-clause-found
returns-clause-found c = find_same

pub returns-clause-fault : goal.returns-clause-fault
returns-clause-fault c = find_fault_same
