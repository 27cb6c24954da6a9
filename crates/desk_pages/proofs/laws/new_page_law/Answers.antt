use Rattle.desk_pages.proofs.Asks.{new_same}
use Rattle.desk_pages.proofs.laws.new_page_law.Goals as goal

pub returns : goal.returns
returns c = new_same
