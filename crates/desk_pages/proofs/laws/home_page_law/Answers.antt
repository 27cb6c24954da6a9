use Rattle.desk_pages.proofs.Homes.{home_same}
use Rattle.desk_pages.proofs.laws.home_page_law.Goals as goal

pub returns : goal.returns
returns c = home_same
