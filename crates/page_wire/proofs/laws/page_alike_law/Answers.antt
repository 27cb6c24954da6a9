-- each reading tells of the view
use Rattle.page_wire.proofs.AlikePages.{pages_alike}
use Rattle.page_wire.proofs.laws.page_alike_law.Goals as goal

pub returns : goal.returns
returns c = pages_alike
