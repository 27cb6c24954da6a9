use Rattle.desk_pages.proofs.Notices.{fault_same}
use Rattle.desk_pages.proofs.laws.fault_page_law.Goals as goal

pub returns : goal.returns
returns c = fault_same
