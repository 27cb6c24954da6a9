use Rattle.find_core.proofs.ViewLemmas.{of_the_view}
use Rattle.find_core.proofs.laws.view_law.Goals as goal

pub returns : goal.returns
returns c s at caller search limit after desk = of_the_view s at caller search limit after desk
