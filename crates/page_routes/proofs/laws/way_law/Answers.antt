-- each visit leads to a page here
use Rattle.page_routes.proofs.WayLaws.{ways_stay_here}
use Rattle.page_routes.proofs.laws.way_law.Goals as goal

pub returns : goal.returns
returns c = ways_stay_here
