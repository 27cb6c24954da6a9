use Rattle.desk_pages.proofs.Refusals.{filed_same}
use Rattle.desk_pages.proofs.laws.filed_page_law.Goals as goal

pub returns : goal.returns
returns c = filed_same
